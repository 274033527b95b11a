-- How the words behind a command's name are cut: up to the first `--` into options with their values, flags and operands.
use Rattle.std.specs.Prelude.{ℕ, ◌==◌, ◌&&◌, ◌||◌, Bool, false, true, not, nat_eq, List, [], ◌∷◌, drop, map, Option, Some, None, codes, bytes_eq, if◌then◌else◌, String, string_bytes}
use Rattle.std.specs.declared.alloc.Global.{Global}
use Rattle.std.specs.List.{after_first, before_first, list_any, starts_with}

-- the texts of words
abbrev pub texts : List (String Global) → List (List ℕ)
texts words = map (λ (word : String Global). string_bytes word) words

-- an operand; the flag `--json`; the name of an option and its value; or what is none of these
pub data Item : Type 0 where
  operand : List ℕ → Item
  flag : Item
  option : List ℕ → List ℕ → Item
  stray : Item

-- `-`
abbrev pub is_dash : ℕ → Bool
is_dash byte = byte == 45

-- `=`
abbrev pub is_equals : ℕ → Bool
is_equals byte = byte == 61

-- the text begins with `-`
abbrev pub begins_with_dash : List ℕ → Bool
begins_with_dash [] = false
begins_with_dash (byte ∷ bytes) = is_dash byte

-- `-` alone, or a word that does not begin with `-`
abbrev pub is_operand : List ℕ → Bool
is_operand word = bytes_eq word (codes "-") || not (begins_with_dash word)

-- `--`, behind which all words are operands
abbrev pub is_dashes : List ℕ → Bool
is_dashes word = bytes_eq word (codes "--")

-- the flag
abbrev pub is_json : List ℕ → Bool
is_json word = bytes_eq word (codes "--json")

-- `--` and a text
abbrev pub is_long : List ℕ → Bool
is_long word = starts_with nat_eq word (codes "--")

-- `--name`, whose value is the next word
abbrev pub is_name : List ℕ → Bool
is_name word = is_long word && not (is_json word) && not (list_any is_equals word)

-- `--name=VALUE`
abbrev pub is_assignment : List ℕ → Bool
is_assignment word = is_long word && list_any is_equals word

-- the name stands before the first `=`, the value behind it
abbrev pub assigned : List ℕ → Item
assigned text = option (before_first is_equals text) (after_first is_equals text)

-- a word by itself
abbrev pub item_of : List ℕ → Item
item_of word =
    if is_operand word then operand word
    else if is_json word then flag
    else if is_assignment word then assigned (drop 2 word)
    else stray

-- the option of `--name VALUE`, whose value does not begin with `-`
abbrev pub valued : List ℕ → List ℕ → Item
valued name value = if begins_with_dash value then stray else option name value

-- the words before the first `--`, cut into items
abbrev mutual
  pub items : List (List ℕ) → List Item
  items [] = []
  items (word ∷ words) = if is_name word then items_behind (drop 2 word) words else item_of word ∷ items words

  -- behind the name of an option, whose value comes first
  pub items_behind : List ℕ → List (List ℕ) → List Item
  items_behind name [] = stray ∷ []
  items_behind name (value ∷ words) = valued name value ∷ items words

-- the operands among them
abbrev pub operands : List Item → List (List ℕ)
operands [] = []
operands (operand word ∷ items) = word ∷ operands items
operands (_ ∷ items) = operands items

-- two flags, or two options of one name
abbrev pub is_same : Item → Item → Bool
is_same flag flag = true
is_same (option name value) (option other given) = bytes_eq name other
is_same _ _ = false

-- no flag and no option stands twice
abbrev pub are_different : List Item → Bool
are_different [] = true
are_different (item ∷ items) = not (list_any (is_same item) items) && are_different items

-- the value of the option of that name, if it stands there
abbrev pub value_of : List ℕ → List Item → Option (List ℕ)
value_of name [] = None
value_of name (option other value ∷ items) = if bytes_eq other name then Some value else value_of name items
value_of name (_ ∷ items) = value_of name items
