-- Where a line is at fault that should be fields. Places count the bytes in front; a column is a place counted from 1.
use Rattle.std.specs.Prelude.{◌≡◌, ℕ, ◌+◌, ◌<◌, true, false, List, [], ◌∷◌, ◌++◌, length, min, flat_map}
use Rattle.std.specs.List.{AllZip}
use Rattle.perm_base.specs.FieldLine.{IsSpelled, begins_with, doubled, in_quotes, is_comma, is_quote, most_fields}
use Rattle.text_parts.specs.Blanks.{AreBlanks, is_blank}
use Rattle.perm_base.specs.LineEnds.{has_line_end, is_line_end}
use Rattle.text_parts.specs.Lines.{has_byte}
use Rattle.perm_base.specs.declared.quoted.FieldFault.{FieldFault}
use Rattle.perm_base.specs.declared.quoted.FieldFault.TheVariants.{Quote, TooMany, NoMemory}

-- a text of so many well spelled fields, each followed by its comma
pub record AreEnded (count : ℕ) (text : List ℕ) : Type 0 where
  pub fields : List (List ℕ)
  pub spellings : List (List ℕ)
  pub counted : length fields ≡ count
  pub spelled : AllZip IsSpelled spellings fields
  pub parts : text ≡ flat_map (λ (spelling : List ℕ). spelling ++ 44 ∷ []) spellings

-- behind blanks, at this place, stands a quote that is never closed: each quote behind it is doubled
pub record IsNeverClosed (text : List ℕ) (at : ℕ) : Type 0 where
  pub front : List ℕ
  pub inside : List ℕ
  pub blank_front : AreBlanks front
  pub parts : text ≡ front ++ 34 ∷ doubled inside
  pub place : at ≡ length front

-- behind a field in quotes and blanks, at this place, stands a byte that is neither a blank nor a comma
pub record IsNotEnded (text : List ℕ) (at : ℕ) : Type 0 where
  pub front : List ℕ
  pub field : List ℕ
  pub back : List ℕ
  pub byte : ℕ
  pub behind : List ℕ
  pub blank_front : AreBlanks front
  pub no_line_end : has_line_end field ≡ false
  pub blank_back : AreBlanks back
  pub closed : begins_with is_quote (back ++ byte ∷ behind) ≡ false
  pub no_blank : is_blank byte ≡ false
  pub no_comma : is_comma byte ≡ false
  pub parts : text ≡ front ++ in_quotes field ++ back ++ byte ∷ behind
  pub place : at ≡ length (front ++ in_quotes field ++ back)

-- the first CR or LF of a field without quotes, before its comma, stands at this place
pub record IsBareLineEnd (text : List ℕ) (at : ℕ) : Type 0 where
  pub front : List ℕ
  pub before : List ℕ
  pub byte : ℕ
  pub behind : List ℕ
  pub blank_front : AreBlanks front
  pub no_blank_in_front : begins_with is_blank before ≡ false
  pub no_quote_in_front : begins_with is_quote before ≡ false
  pub no_comma : has_byte 44 before ≡ false
  pub no_line_end : has_line_end before ≡ false
  pub line_end : is_line_end byte ≡ true
  pub parts : text ≡ front ++ before ++ byte ∷ behind
  pub place : at ≡ length (front ++ before)

-- the first CR or LF of a field in quotes, which are closed, stands at this place
pub record IsQuotedLineEnd (text : List ℕ) (at : ℕ) : Type 0 where
  pub front : List ℕ
  pub before : List ℕ
  pub byte : ℕ
  pub after : List ℕ
  pub behind : List ℕ
  pub blank_front : AreBlanks front
  pub no_line_end : has_line_end before ≡ false
  pub line_end : is_line_end byte ≡ true
  pub closed : begins_with is_quote behind ≡ false
  pub parts : text ≡ front ++ in_quotes (before ++ byte ∷ after) ++ behind
  pub place : at ≡ length (front ++ 34 ∷ doubled before)

-- the field that the text begins with is bad at this place
pub data IsBad (text : List ℕ) (at : ℕ) : Type 0 where
  never_closed : IsNeverClosed text at → IsBad text at
  not_ended : IsNotEnded text at → IsBad text at
  bare_line_end : IsBareLineEnd text at → IsBad text at
  quoted_line_end : IsQuotedLineEnd text at → IsBad text at

-- behind fewer than 34 well spelled fields, each followed by its comma, stands a field that is bad at this place of the line
pub record IsBadAt (line : List ℕ) (at : ℕ) : Type 0 where
  pub count : ℕ
  pub front : List ℕ
  pub rest : List ℕ
  pub within : ℕ
  pub few : count < most_fields
  pub ended : AreEnded count front
  pub bad : IsBad rest within
  pub parts : line ≡ front ++ rest
  pub place : at ≡ length front + within

-- the column of a place, from 1; no column is above 2^32 - 1
abbrev pub column_at : ℕ → ℕ
column_at at = min (at + 1) 4_294_967_295

-- the line is at fault at this column
abbrev pub IsQuoteFault : List ℕ → ℕ → Type 0
IsQuoteFault line column = (at : ℕ) × IsBadAt line at × (column ≡ column_at at)

-- the line begins with 34 well spelled fields, each followed by its comma
pub record HasTooMany (line : List ℕ) : Type 0 where
  pub front : List ℕ
  pub rest : List ℕ
  pub ended : AreEnded most_fields front
  pub parts : line ≡ front ++ rest

-- the line has this fault; no line is at fault by want of memory
abbrev pub IsFault : List ℕ → FieldFault → Type 0
IsFault line (Quote column) = IsQuoteFault line column
IsFault line TooMany = HasTooMany line
IsFault line NoMemory = ⊥
