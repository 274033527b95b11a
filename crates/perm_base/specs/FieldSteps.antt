-- The fields of a line that may stand in double quotes, as they are read from left to right.
use Rattle.std.specs.Prelude.{◌≡◌, ℕ, zero, suc, ◌+◌, ◌-◌, ◌==◌, ◌||◌, Bool, false, if◌then◌else◌, min, List, [], ◌∷◌, ◌++◌, length, position, Option, Some, None, option_map, Result, Ok, Err}
use Rattle.std.specs.Borrow.{Bor}
use Rattle.text_parts.specs.Blanks.{before_blanks, behind_blanks}
use Rattle.text_parts.specs.Lines.{has_byte}
use Rattle.perm_base.specs.LineEnds.{is_line_end, has_line_end}
use Rattle.perm_base.specs.declared.quoted.FieldFault.{FieldFault}
use Rattle.perm_base.specs.declared.quoted.FieldFault.TheVariants.{Quote, TooMany, NoMemory}

-- the column, from 1, of the byte with which the last so many bytes of a line of this size begin; no column is above 2^32 - 1
unfoldable pub column_of : ℕ → ℕ → ℕ
column_of size left = min (size - left + 1) 4_294_967_295

-- the column of the byte at this place of the last bytes of a line of this size
abbrev pub place_column : ℕ → List ℕ → Option ℕ → ℕ
place_column size bytes None = column_of size 0
place_column size bytes (Some at) = column_of size (length bytes - at)

-- the column of the first CR or LF of the last bytes of a line of this size
unfoldable pub line_end_column : ℕ → List ℕ → ℕ
line_end_column size bytes = place_column size bytes (position is_line_end bytes)

-- a field that was read: its text, and what stands behind its comma, if there is one
abbrev pub Read : Type 0
Read = List ℕ × Option (List ℕ)

-- a field that was read, as contracts see it
abbrev pub seen : List ℕ × Option (Bor (List ℕ)) → Read
seen read = (read.0, option_map (λ (behind : Bor (List ℕ)). behind.now) read.1)

-- what stands before the first comma, or all
unfoldable pub before_comma : List ℕ → List ℕ
before_comma [] = []
before_comma (byte ∷ bytes) = if byte == 44 then [] else byte ∷ before_comma bytes

-- what stands behind the first comma, if there is one
unfoldable pub behind_comma : List ℕ → Option (List ℕ)
behind_comma [] = None
behind_comma (byte ∷ bytes) = if byte == 44 then Some bytes else behind_comma bytes

-- a comma ends a field that does not begin with a quote, and a CR or LF before it makes it bad
abbrev pub ends_plain : ℕ → Bool
ends_plain byte = byte == 44 || is_line_end byte

-- a field that does not begin with a quote: up to the comma or the end, without the blanks at its back
unfoldable pub plain_field : ℕ → List ℕ → Result Read FieldFault
plain_field size bytes = if has_line_end (before_comma bytes) then Err (Quote (line_end_column size bytes)) else Ok (before_blanks (before_comma bytes), behind_comma bytes)

-- the text is cut at its first such byte
pub record IsCutAt (byte : ℕ) (text before behind : List ℕ) : Type 0 where
  pub parts : text ≡ before ++ byte ∷ behind
  pub first : has_byte byte before ≡ false

-- more text in front of a quoted text
abbrev pub more_quoted : List ℕ → Option (List ℕ × List ℕ) → Option (List ℕ × List ℕ)
more_quoted front found = option_map (λ (cut : List ℕ × List ℕ). (front ++ cut.0, cut.1)) found

-- behind an opening quote: the text up to the next quote that is not doubled, and what stands behind that quote
unfoldable pub quoted_text : List ℕ → Option (List ℕ × List ℕ)
quoted_text [] = None
quoted_text (byte ∷ []) = if byte == 34 then Some ([], []) else None
quoted_text (byte ∷ next ∷ bytes) = if byte == 34 then (if next == 34 then more_quoted (34 ∷ []) (quoted_text bytes) else Some ([], next ∷ bytes)) else more_quoted (byte ∷ []) (quoted_text (next ∷ bytes))

-- a field behind whose closing quote, and the blanks there, these bytes stand: only a comma or the end may
unfoldable pub closed_field : ℕ → List ℕ → List ℕ → Result Read FieldFault
closed_field size text [] = Ok (text, None)
closed_field size text (byte ∷ bytes) = if byte == 44 then Ok (text, Some bytes) else Err (Quote (column_of size (length (byte ∷ bytes))))

-- a field that begins with a quote, behind that quote, by its quoted text
abbrev pub quoted_part : ℕ → List ℕ → Option (List ℕ × List ℕ) → Result Read FieldFault
quoted_part size bytes None = Err (Quote (column_of size (length bytes + 1)))
quoted_part size bytes (Some cut) = if has_line_end (cut.0) then Err (Quote (line_end_column size bytes)) else closed_field size (cut.0) (behind_blanks (cut.1))

-- a field that begins with a quote, behind that quote
unfoldable pub quoted_field : ℕ → List ℕ → Result Read FieldFault
quoted_field size bytes = quoted_part size bytes (quoted_text bytes)

-- a field from its first byte that is no blank
unfoldable pub full_field : ℕ → List ℕ → Result Read FieldFault
full_field size [] = plain_field size []
full_field size (byte ∷ bytes) = if byte == 34 then quoted_field size bytes else plain_field size (byte ∷ bytes)

-- the field at the front of the last bytes of a line of this size
unfoldable pub first_field : ℕ → List ℕ → Result Read FieldFault
first_field size bytes = full_field size (behind_blanks bytes)

-- the fields in front of those that are read next
abbrev pub more_fields : List (List ℕ) → Result (List (List ℕ)) FieldFault → Result (List (List ℕ)) FieldFault
more_fields front (Ok fields) = Ok (front ++ fields)
more_fields front (Err fault) = Err fault

-- a field that was read, and those that are read behind its comma
abbrev pub with_next : (List ℕ → Result (List (List ℕ)) FieldFault) → Result Read FieldFault → Result (List (List ℕ)) FieldFault
with_next next (Err fault) = Err fault
with_next next (Ok read) = elim (read.1) [
  | None ↦ Ok (read.0 ∷ [])
  | Some behind ↦ more_fields (read.0 ∷ []) (next behind)
]

-- so many fields at most, of the last bytes of a line of this size
unfoldable pub fields_within : ℕ → ℕ → List ℕ → Result (List (List ℕ)) FieldFault
fields_within zero size bytes = Err TooMany
fields_within (suc room) size bytes = with_next (fields_within room size) (first_field size bytes)

-- the fields of a line, or its first fault: there are 34 at most
unfoldable pub fields_of : List ℕ → Result (List (List ℕ)) FieldFault
fields_of line = fields_within 34 (length line) line

-- the fault is the one that reading gives, unless memory ran out
abbrev pub Fails : {Y : Type 0} → FieldFault → Result Y FieldFault → Type 0
Fails NoMemory read = Unit {0}
Fails TooMany read = read ≡ Err TooMany
Fails (Quote column) read = read ≡ Err (Quote column)

-- what a function returned, seen by view, is what reading gives, unless memory ran out
abbrev pub Gives : {X Y : Type 0} → (X → Y) → Result X FieldFault → Result Y FieldFault → Type 0
Gives view (Ok x) read = read ≡ Ok (view x)
Gives view (Err fault) read = Fails fault read

-- a comma or a double quote, for which a field is quoted when it is printed
abbrev pub is_mark : ℕ → Bool
is_mark byte = byte == 44 || byte == 34
