-- By what rows are found: the texts of some columns, and in one more column the bytes that each text begins with which fits a pattern.
use Rattle.std.specs.Prelude.{ℕ, ◌&&◌, Bool, true, false, nat_lt, List, [], ◌∷◌, length, take, All, ◌≡◌, Option, Some, None, if◌then◌else◌, slice_get}
use Rattle.std.specs.List.{list_all}
use Rattle.std.specs.Option.{option_map_or}
use Rattle.std.specs.Str.{bytes_eq}
use Rattle.key_match.specs.Fronts.{brace_front, colon_front, glob_front, star_front}
use Rattle.policy_table.specs.Tables.{Fields}
use Rattle.policy_index.specs.Places.{has_text}
use Rattle.policy_index.specs.declared.key.FrontColumn.{FrontColumn}
use Rattle.policy_index.specs.declared.key.FrontKind.{FrontKind}
use Rattle.policy_index.specs.declared.key.FrontKind.TheVariants.{Star, Colon, Brace, CutBrace, Glob}

-- the columns whose texts count, and the column whose pattern does, or none
pub record KeyParts : Type 0 where
  pub columns : List ℕ
  pub pattern : Option FrontColumn

-- the front of a pattern
abbrev pub front_of : FrontKind → List ℕ → List ℕ
front_of Star pattern = star_front pattern
front_of Colon pattern = colon_front pattern
front_of Brace pattern = brace_front pattern
front_of CutBrace pattern = brace_front pattern
front_of Glob pattern = glob_front pattern

-- a text that fits a pattern which is all front is the pattern; not so where a text is cut before it is tried
abbrev pub tells_whole : FrontKind → Bool
tells_whole Star = true
tells_whole Colon = true
tells_whole Brace = true
tells_whole CutBrace = false
tells_whole Glob = true

-- nothing but the pattern fits it
abbrev pub is_whole : FrontKind → List ℕ → Bool
is_whole kind pattern = tells_whole kind && bytes_eq (front_of kind pattern) pattern

-- the text begins with these bytes
abbrev pub begins_so : List ℕ → List ℕ → Bool
begins_so front text = bytes_eq front (take (length front) text)

-- the text may fit the pattern: it is the pattern, or begins with its front
abbrev pub may_fit : FrontKind → List ℕ → List ℕ → Bool
may_fit kind pattern text = if is_whole kind pattern then bytes_eq pattern text else begins_so (front_of kind pattern) text

-- it may fit the pattern in the rule's column
abbrev pub fits_pattern : Option FrontColumn → List ℕ → Fields → Bool
fits_pattern None text rule = true
fits_pattern (Some front) text rule = option_map_or (λ (pattern : List ℕ). may_fit front.kind pattern text) (slice_get rule front.column) false

-- the rule has each of the texts in its column
abbrev pub has_texts : List ℕ → List (List ℕ) → Fields → Bool
has_texts [] [] rule = true
has_texts [] (text ∷ texts) rule = false
has_texts (column ∷ columns) [] rule = false
has_texts (column ∷ columns) (text ∷ texts) rule = has_text column text rule && has_texts columns texts rule

-- the rule has these texts, and the text that is asked may fit its pattern
abbrev pub agrees : KeyParts → List (List ℕ) → List ℕ → Fields → Bool
agrees key texts asked rule = has_texts key.columns texts rule && fits_pattern key.pattern asked rule

-- each column of the key is below a number of columns
abbrev pub is_below : ℕ → KeyParts → Bool
is_below count key = list_all (λ (column : ℕ). nat_lt column count) key.columns && option_map_or (λ (front : FrontColumn). nat_lt front.column count) key.pattern true

-- each rule has the columns of the key
abbrev pub HaveColumns : KeyParts → List Fields → Type 0
HaveColumns key rules = All (λ (rule : Fields). is_below (length rule) key ≡ true) rules

-- one column as it is
abbrev pub of_column : ℕ → KeyParts
of_column column = record { columns = column ∷ []; pattern = None }
