-- Lines of fields that may stand in double quotes: how a field is spelled, which fields a line is, and how fields are printed.
use Rattle.std.specs.Prelude.{◌≡◌, ℕ, ◌<◌, ◌≤◌, ◌==◌, ◌||◌, Bool, false, if◌then◌else◌, List, [], ◌∷◌, ◌++◌, length, map, reverse}
use Rattle.std.specs.List.{AllZip, join_by}
use Rattle.text_parts.specs.Blanks.{AreBlanks, is_blank}
use Rattle.perm_base.specs.Fields.{joined}
use Rattle.perm_base.specs.LineEnds.{has_line_end}
use Rattle.text_parts.specs.Lines.{has_byte}

-- a double quote
abbrev pub is_quote : ℕ → Bool
is_quote byte = byte == 34

-- a comma
abbrev pub is_comma : ℕ → Bool
is_comma byte = byte == 44

-- the text begins with such a byte; an empty text does not
abbrev pub begins_with : (ℕ → Bool) → List ℕ → Bool
begins_with test [] = false
begins_with test (byte ∷ bytes) = test byte

-- the text ends with such a byte; an empty text does not
abbrev pub ends_with : (ℕ → Bool) → List ℕ → Bool
ends_with test text = begins_with test (reverse text)

-- each double quote stands twice
unfoldable pub doubled : List ℕ → List ℕ
doubled [] = []
doubled (byte ∷ bytes) = if is_quote byte then 34 ∷ 34 ∷ doubled bytes else byte ∷ doubled bytes

-- a text in double quotes, those in it doubled (RFC 4180, 2)
abbrev pub in_quotes : List ℕ → List ℕ
in_quotes text = 34 ∷ doubled text ++ 34 ∷ []

-- a field that may stand as it is, without quotes round it; it may be empty
pub record IsBare (field : List ℕ) : Type 0 where
  pub no_quote_in_front : begins_with is_quote field ≡ false
  pub no_comma : has_byte 44 field ≡ false
  pub no_line_end : has_line_end field ≡ false
  pub no_blank_in_front : begins_with is_blank field ≡ false
  pub no_blank_behind : ends_with is_blank field ≡ false

-- the text is the field, as it is or in quotes
pub data IsWritten (text field : List ℕ) : Type 0 where
  bare : IsBare field → text ≡ field → IsWritten text field
  quoted : has_line_end field ≡ false → text ≡ in_quotes field → IsWritten text field

-- the spelling of one field: blanks, the field as it is or in quotes, blanks
pub record IsSpelled (spelling field : List ℕ) : Type 0 where
  pub front : List ℕ
  pub text : List ℕ
  pub back : List ℕ
  pub blank_front : AreBlanks front
  pub written : IsWritten text field
  pub blank_back : AreBlanks back
  pub parts : spelling ≡ front ++ text ++ back

-- the greatest number of fields of a line
abbrev pub most_fields : ℕ
most_fields = 34

-- the line is these fields, 1 to 34: a spelling of each, joined by single commas (Casbin, policy)
pub record IsFields (line : List ℕ) (fields : List (List ℕ)) : Type 0 where
  pub some : 0 < length fields
  pub few : length fields ≤ most_fields
  pub spellings : List (List ℕ)
  pub spelled : AllZip IsSpelled spellings fields
  pub parts : line ≡ join_by (λ (spelling : List ℕ). spelling) (44 ∷ []) spellings

-- it begins or ends with a blank, or begins with `#`
abbrev pub has_odd_ends : List ℕ → Bool
has_odd_ends field = begins_with (λ (byte : ℕ). byte == 35) field || begins_with is_blank field || ends_with is_blank field

-- it is empty, has such ends, or holds a comma or a quote
abbrev pub needs_quotes : List ℕ → Bool
needs_quotes field = length field == 0 || has_odd_ends field || has_byte 44 field || has_byte 34 field

-- a field as it is printed
unfoldable pub printed_field : List ℕ → List ℕ
printed_field field = if needs_quotes field then in_quotes field else field

-- fields as they are printed, joined by a comma and a blank
abbrev pub printed : List (List ℕ) → List ℕ
printed fields = joined (map printed_field fields)
