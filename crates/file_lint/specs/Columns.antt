-- Where the fields of a policy's line stand, and how many there are, also of a line that is no rule.
use Rattle.std.specs.Prelude.{ℕ, zero, suc, ◌+◌, ◌-◌, ◌==◌, ◌&&◌, Bool, true, false, not, List, [], ◌∷◌, if◌then◌else◌}
use Rattle.text_parts.specs.Blanks.{is_blank}
use Rattle.file_lint.specs.Places.{blanks_before}
use Rattle.file_lint.specs.declared.columns.Within.{Within}
use Rattle.file_lint.specs.declared.columns.Within.TheVariants.{Front, Quoted, Closed, Plain}

-- behind one byte more: at the front of a field, in quotes, behind a quote that closes them, or in a field without
abbrev pub behind_byte : Within → ℕ → Within
behind_byte Front byte = if is_blank byte then Front else if byte == 34 then Quoted else if byte == 44 then Front else Plain
behind_byte Quoted byte = if byte == 34 then Closed else Quoted
behind_byte Closed byte = if byte == 34 then Quoted else if byte == 44 then Front else Closed
behind_byte Plain byte = if byte == 44 then Front else Plain

abbrev pub is_quoted : Within → Bool
is_quoted Quoted = true
is_quoted _ = false

-- a comma outside quotes ends a field
abbrev pub ends_field : Within → ℕ → Bool
ends_field within byte = byte == 44 && not (is_quoted within)

-- how many fields are left to pass
abbrev pub fields_left : ℕ → Bool → ℕ
fields_left left ends = if ends then left - 1 else left

-- how many bytes stand in front of the field that has so many before it, blanks in front of it among them; of the whole line where there is none
unfoldable pub field_front : ℕ → Within → List ℕ → ℕ
field_front zero within text = blanks_before text
field_front (suc left) within [] = 0
field_front (suc left) within (byte ∷ bytes) = 1 + field_front (fields_left (suc left) (ends_field within byte)) (behind_byte within byte) bytes

-- one, where a field ends
abbrev pub ended : Bool → ℕ
ended ends = if ends then 1 else 0

-- how many fields a line has
unfoldable pub field_count : Within → List ℕ → ℕ
field_count within [] = 1
field_count within (byte ∷ bytes) = ended (ends_field within byte) + field_count (behind_byte within byte) bytes

-- the column of a field, whose line has so many before it
abbrev pub field_column : ℕ → List ℕ → ℕ
field_column before line = field_front before Front line + 1
