-- Places in a model's file: a line, the value of a key and a byte of it, also where lines continue a line. Lines and columns are counted from 1.
use Rattle.std.specs.Prelude.{ℕ, ◌+◌, ◌-◌, ◌==◌, ◌&&◌, Bool, true, false, nat_eq, nat_lt, List, [], ◌∷◌, drop, length, take, if◌then◌else◌}
use Rattle.std.specs.List.{before_first, ends_with, prefix_len}
use Rattle.std.specs.Str.{bytes_eq}
use Rattle.text_parts.specs.Blanks.{before_blanks, is_blank, trimmed}
use Rattle.text_parts.specs.Numbered.{Line, numbered, text_lines}
use Rattle.text_parts.specs.Passed.{is_passed_in_model}
use Rattle.file_lint.specs.declared.places.Place.{Place}

abbrev pub place : ℕ → ℕ → Place
place line column = record { line = line; column = column }

-- the text ends in this byte
abbrev pub ends_in : ℕ → List ℕ → Bool
ends_in sign text = ends_with nat_eq text (sign ∷ [])

-- a line that is continued ends in `\`, blanks apart
abbrev pub is_open : List ℕ → Bool
is_open text = ends_in 92 (before_blanks text)

-- how many bytes of such a line stand before the `\`
abbrev pub open_length : List ℕ → ℕ
open_length text = length (before_blanks text) - 1

-- how many blanks stand in front of a text
abbrev pub blanks_before : List ℕ → ℕ
blanks_before text = prefix_len is_blank text

-- the byte of a line with those that continue it that has so many bytes before it; between two lines stands one blank
unfoldable pub place_in : Line → List Line → ℕ → Place
place_in first [] before = place first.number (before + 1)
place_in first (next ∷ others) before =
    if is_open first.text && nat_lt (open_length first.text) before then place_in next others (before - (open_length first.text + 1)) else place first.number (before + 1)

-- `=`
abbrev pub is_equals : ℕ → Bool
is_equals byte = byte == 61

-- the key that a line names: what stands before its first `=`, without blanks
abbrev pub key_in : List ℕ → List ℕ
key_in text = trimmed (before_first is_equals text)

-- the lines from the one on that begins with a key; a line that is passed over, and one that continues another, begins with none
unfoldable pub from_key : List ℕ → Bool → List Line → List Line
from_key key continued [] = []
from_key key true (first ∷ others) = from_key key (is_open first.text) others
from_key key false (first ∷ others) =
    if is_passed_in_model first.text then from_key key false others
    else if bytes_eq (key_in first.text) key then first ∷ others
    else from_key key (is_open first.text) others

-- where a value begins that stands in a line behind so many bytes: behind the blanks there
abbrev pub behind_blanks_at : ℕ → List ℕ → ℕ
behind_blanks_at offset text = offset + blanks_before (drop offset text)

-- the byte of a value that has so many bytes of the value before it, where the value stands behind so many bytes of a line, or behind blanks of the lines that continue it
unfoldable pub value_in : ℕ → Line → List Line → ℕ → Place
value_in offset first [] before = place_in first [] (behind_blanks_at offset first.text + before)
value_in offset first (next ∷ others) before =
    if is_open first.text && behind_blanks_at offset first.text == open_length first.text then value_in 0 next others before
    else place_in first (next ∷ others) (behind_blanks_at offset first.text + before)

-- the byte of the value of a key, by the lines from its line on, that has so many bytes of the value before it; the front of the file where there is no such line
abbrev pub value_place : ℕ → List Line → Place
value_place before [] = place 1 1
value_place before (first ∷ others) = value_in (length (before_first is_equals first.text) + 1) first others before

-- the lines of a file
abbrev pub file_lines : List ℕ → List Line
file_lines bytes = numbered 1 (text_lines bytes)

-- the byte of the value of a key in a file
abbrev pub place_of_value : List ℕ → ℕ → List ℕ → Place
place_of_value key before bytes = value_place before (from_key key false (file_lines bytes))

-- the line of a number; empty where there is none
unfoldable pub line_at : ℕ → List Line → List ℕ
line_at number [] = []
line_at number (first ∷ others) = if first.number == number then first.text else line_at number others

-- the first byte of a line that is no blank
abbrev pub front_of : ℕ → List ℕ → Place
front_of number bytes = place number (blanks_before (line_at number (file_lines bytes)) + 1)

-- what stands in the line of a place in front of it, and what at it and behind
abbrev pub front_at : Place → List ℕ → List ℕ
front_at at bytes = take (at.column - 1) (line_at at.line (file_lines bytes))

abbrev pub rest_at : Place → List ℕ → List ℕ
rest_at at bytes = drop (at.column - 1) (line_at at.line (file_lines bytes))
