-- The hash by which a row is found, and what is kept of a row beside. Rows that agree have one hash; others may have the same.
use Rattle.std.specs.Prelude.{◌≡◌, ℕ, ◌+◌, ◌*◌, ◌%◌, ◌^◌, List, [], fold, length, take, get_or, map, Option, Some, None, if◌then◌else◌}
use Rattle.policy_table.specs.Tables.{Fields}
use Rattle.policy_index.specs.Keys.{KeyParts, front_of, is_whole}
use Rattle.policy_index.specs.declared.key.FrontColumn.{FrontColumn}
use Rattle.policy_index.specs.declared.key.FrontKind.{FrontKind}
use Rattle.policy_index.specs.declared.mark.Mark.{Mark}

-- a hash with one byte more, or with a sign of what follows
unfoldable pub hash_step : ℕ → ℕ → ℕ
hash_step hash byte = ((hash * 1099511628211) % 2 ^ 64 + (byte + 1)) % 2 ^ 64

-- with further bytes
abbrev pub bytes_hash : ℕ → List ℕ → ℕ
bytes_hash hash bytes = fold hash_step hash bytes

-- with one text more, behind the sign of a text
abbrev pub text_hash : ℕ → List ℕ → ℕ
text_hash hash text = bytes_hash (hash_step hash 256) text

-- that of texts
abbrev pub start_hash : ℕ
start_hash = 14695981039346656037

abbrev pub texts_hash : List (List ℕ) → ℕ
texts_hash texts = fold text_hash start_hash texts

-- that of a rule's texts in columns
abbrev pub fields_hash : List ℕ → Fields → ℕ
fields_hash columns rule = fold (λ hash column. text_hash hash (get_or rule column [])) start_hash columns

-- behind it that of a whole text, and that of a front
abbrev pub whole_hash : ℕ → List ℕ → ℕ
whole_hash hash text = bytes_hash (hash_step hash 257) text

abbrev pub front_hash : ℕ → List ℕ → ℕ
front_hash hash front = bytes_hash (hash_step hash 258) front

-- of a front so many bytes count
abbrev pub most_front : ℕ
most_front = 255

abbrev pub short_front : FrontKind → List ℕ → List ℕ
short_front kind pattern = take most_front (front_of kind pattern)

-- what is kept of a pattern behind a hash
abbrev pub front_mark : ℕ → List ℕ → Mark
front_mark hash front = record { hash = front_hash hash front; front = Some (length front) }

abbrev pub pattern_mark : FrontKind → ℕ → List ℕ → Mark
pattern_mark kind hash pattern = if is_whole kind pattern then record { hash = whole_hash hash pattern; front = None } else front_mark hash (short_front kind pattern)

abbrev pub mark_behind : Option FrontColumn → ℕ → Fields → Mark
mark_behind None hash rule = record { hash = hash; front = None }
mark_behind (Some front) hash rule = pattern_mark front.kind hash (get_or rule front.column [])

-- what is kept of a rule
abbrev pub mark_of : KeyParts → Fields → Mark
mark_of key rule = mark_behind key.pattern (fields_hash key.columns rule) rule

-- what is kept of rules, one after the other
abbrev pub marks_of : KeyParts → List Fields → List Mark
marks_of key rules = map (mark_of key) rules

-- a key of these texts
abbrev pub IsKeyOf : ℕ → List (List ℕ) → Type 0
IsKeyOf key texts = key ≡ texts_hash texts
