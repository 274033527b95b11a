-- A model's text with one fault taken away, so that the next is met: the line at fault is emptied, a key that is missing is written, a value that is none is replaced, a name that is not declared is declared.
use Rattle.std.specs.Prelude.{ℕ, ◌-◌, ◌==◌, Bool, true, false, not, nat_lt, List, [], ◌∷◌, ◌++◌, codes, drop, length, take, Option, Some, None, if◌then◌else◌, unwrap_or}
use Rattle.std.specs.List.{after_first, prefix_len}
use Rattle.std.specs.Option.{option_and_then}
use Rattle.text_parts.specs.Blanks.{behind_blanks}
use Rattle.text_parts.specs.Lines.{with_ends}
use Rattle.text_parts.specs.Names.{is_word}
use Rattle.text_parts.specs.Numbered.{Line}
use Rattle.model_conf.specs.Faults.{key_text}
use Rattle.model_conf.specs.ModelText.{most_bytes}
use Rattle.model_conf.specs.declared.fault.ModelFault.{ModelFault}
use Rattle.model_conf.specs.declared.fault.ModelFault.TheVariants as fault
use Rattle.model_conf.specs.declared.key.Key.{Key}
use Rattle.model_conf.specs.declared.key.Key.TheVariants as k
use Rattle.perm_base.specs.TableNames.{name_of}
use Rattle.perm_base.specs.declared.shapes.TableId.TheVariants.{G}
use Rattle.file_lint.specs.Hints.{begins_so}
use Rattle.file_lint.specs.ModelNames.{header_in, key_and_rest, lower_of, order_mark}
use Rattle.file_lint.specs.Near.{near_name, section_names}
use Rattle.file_lint.specs.Places.{is_equals, is_open, file_lines, from_key, key_in, line_at, place_of_value, rest_at}
use Rattle.file_lint.specs.declared.mended.Extent.{Extent}
use Rattle.file_lint.specs.declared.mended.Extent.TheVariants.{Alone, Continued, Section}
use Rattle.file_lint.specs.declared.mended.Reach.{Reach}
use Rattle.file_lint.specs.declared.mended.Reach.TheVariants.{Ahead, Within, Past}

-- a mended text, and whether columns or shapes were guessed in it
pub record MendedText : Type 0 where
  pub text : List ℕ
  pub guessed : Bool

-- the first byte that is no blank is `[`
abbrev pub begins_section : List ℕ → Bool
begins_section text = begins_so (codes "[") (behind_blanks text)

-- behind the line that is replaced, whether the next one is emptied: none; those that continue it; those of its section
abbrev pub is_emptied : Extent → Bool → List ℕ → Bool
is_emptied Alone continued text = false
is_emptied Continued continued text = continued
is_emptied Section continued text = not (begins_section text)

-- how far the lines have come behind one more: ahead of the line that is replaced, within what is replaced, whose last line is continued or not, or past it
abbrev pub reach_behind : Extent → ℕ → Reach → Line → Reach
reach_behind extent at Ahead next = if next.number == at then Within (is_open next.text) else Ahead
reach_behind extent at (Within continued) next = if is_emptied extent continued next.text then Within (is_open next.text) else Past
reach_behind extent at Past next = Past

-- what stands in place of a line that is within what is replaced, by how far the lines before it have come
abbrev pub piece_within : List ℕ → Reach → List ℕ → List ℕ
piece_within by Ahead text = by
piece_within by (Within continued) text = []
piece_within by Past text = text

-- what stands in place of a line, by how far the lines before it have come, and those up to it
abbrev pub piece : List ℕ → Reach → Reach → List ℕ → List ℕ
piece by before Ahead text = text
piece by before (Within continued) text = piece_within by before text
piece by before Past text = text

-- the lines, of which the one of this number is replaced, and those are emptied that belong to it
unfoldable pub replaced : Extent → ℕ → List ℕ → Reach → List Line → List (List ℕ)
replaced extent at by reach [] = []
replaced extent at by reach (first ∷ others) =
    piece by reach (reach_behind extent at reach first) first.text ∷ replaced extent at by (reach_behind extent at reach first) others

-- a text with a line replaced
abbrev pub with_line : Extent → ℕ → List ℕ → List ℕ → List ℕ
with_line extent at by bytes = with_ends (replaced extent at by Ahead (file_lines bytes))

-- a text with lines behind it, which continue none of its own
abbrev pub with_more : List ℕ → List ℕ → List ℕ
with_more more bytes = bytes ++ codes "\n\n" ++ more

-- the number of the line that begins with a key, where there is one
abbrev pub number_of : List Line → Option ℕ
number_of [] = None
number_of (first ∷ others) = Some first.number

abbrev pub key_number : List ℕ → List ℕ → Option ℕ
key_number key bytes = number_of (from_key key false (file_lines bytes))

-- a mended text that is not longer than a model may be
abbrev pub if_short : Bool → List ℕ → Option MendedText
if_short guessed text = if nat_lt most_bytes (length text) then None else Some (record { text = text; guessed = guessed })

-- the section of a key, and the key with a value
abbrev pub usual_lines : Key → List ℕ
usual_lines k.R = codes "[request_definition]\nr = sub, obj, act\n"
usual_lines k.P = codes "[policy_definition]\np = sub, obj, act\n"
usual_lines k.E = codes "[policy_effect]\ne = some(where (p.eft == allow))\n"
usual_lines k.M = codes "[matchers]\nm = true\n"

-- whether other parts of a model name what the value says
abbrev pub is_guess : Key → Bool
is_guess k.R = true
is_guess k.P = true
is_guess k.E = false
is_guess k.M = false

-- the value of a key is replaced
abbrev pub with_value : List ℕ → List ℕ → Bool → Option ℕ → List ℕ → Option MendedText
with_value key value guessed None bytes = None
with_value key value guessed (Some at) bytes = if_short guessed (with_line Continued at (key ++ codes " = " ++ value) bytes)

abbrev pub usual_value : Key → List ℕ
usual_value k.R = codes "sub, obj, act"
usual_value k.P = codes "sub, obj, act"
usual_value k.E = codes "some(where (p.eft == allow))"
usual_value k.M = codes "true"

-- a line of columns with one more in front
abbrev pub with_column : List ℕ → List ℕ → List Line → List ℕ → Option MendedText
with_column key column [] bytes = None
with_column key column (first ∷ others) bytes = if_short false (with_line Alone first.number (key ++ codes " = " ++ column ++ codes "," ++ after_first is_equals first.text) bytes)

-- the letters, digits and `_` in front of a text
abbrev pub word_front : List ℕ → List ℕ
word_front text = take (prefix_len is_word text) text

-- the column of a key is declared
abbrev pub with_column_of : List ℕ → Key × List ℕ → Option MendedText
with_column_of bytes cut = with_column (key_text cut.0) (word_front cut.1) (from_key (key_text cut.0) false (file_lines bytes)) bytes

-- the column of a name `r.column` or `p.column` at the front of a text is declared
abbrev pub with_declared : List ℕ → List ℕ → Option MendedText
with_declared text bytes = option_and_then (with_column_of bytes) (key_and_rest text)

-- a relation of that name is declared, where none is
abbrev pub with_relation : List ℕ → Option ℕ → List ℕ → Option MendedText
with_relation name (Some at) bytes = None
with_relation name None bytes = if_short true (with_more (codes "[role_definition]\n" ++ name ++ codes " = _, _\n") bytes)

abbrev pub relation_key : ℕ → List ℕ
relation_key number = unwrap_or (name_of (G number)) []

-- what stands at a byte of the matcher and behind it
abbrev pub matcher_at : ℕ → List ℕ → List ℕ
matcher_at before bytes = rest_at (place_of_value (codes "m") before bytes) bytes

-- a line without its byte-order mark, where it has one
abbrev pub without_mark : List ℕ → Option (List ℕ)
without_mark line = if begins_so order_mark line then Some (drop 3 line) else None

-- a text with a line replaced by what is left of it, or without the line
abbrev pub with_left : ℕ → List ℕ → Option (List ℕ) → List ℕ
with_left number bytes None = with_line Continued number [] bytes
with_left number bytes (Some left) = with_line Alone number left bytes

-- a text without the byte-order mark of a line, or without the line where it has none
abbrev pub without_line : ℕ → List ℕ → List ℕ → List ℕ
without_line number line bytes = with_left number bytes (without_mark line)

-- a text with the section that was nearly named, or without the lines of the section
abbrev pub with_section : ℕ → Option (List ℕ) → List ℕ → List ℕ
with_section number (Some name) bytes = with_line Alone number (codes "[" ++ name ++ codes "]") bytes
with_section number None bytes = with_line Section number [] bytes

-- a text with a key in lower case, or without the key's line
abbrev pub with_key : ℕ → Option (List ℕ) → List ℕ → List ℕ → List ℕ
with_key number (Some key) line bytes = with_line Alone number (key ++ codes " =" ++ after_first is_equals line) bytes
with_key number None line bytes = with_line Continued number [] bytes

-- the text with the fault taken away, where that can be
unfoldable pub mended : ModelFault → List ℕ → Option MendedText
mended fault.TooLong bytes = None
mended fault.NotUtf8 bytes = None
mended (fault.Line number) bytes = if_short false (without_line number (line_at number (file_lines bytes)) bytes)
mended (fault.UnknownSection number) bytes = if_short false (with_section number (near_name (header_in (line_at number (file_lines bytes))) section_names) bytes)
mended (fault.UnknownKey number) bytes =
    if_short false (with_key number (lower_of (key_in (line_at number (file_lines bytes)))) (line_at number (file_lines bytes)) bytes)
mended (fault.RepeatedKey number) bytes = if_short false (with_line Continued number [] bytes)
mended (fault.Missing key) bytes = if_short (is_guess key) (with_more (usual_lines key) bytes)
mended (fault.Columns key) bytes = with_value (key_text key) (usual_value key) true (key_number (key_text key) bytes) bytes
mended (fault.RoleShape number) bytes = with_value (relation_key number) (codes "_, _") true (key_number (relation_key number) bytes) bytes
mended fault.UnknownEffect bytes = with_value (codes "e") (usual_value k.E) false (key_number (codes "e") bytes) bytes
mended (fault.Matcher inner) bytes = None
mended (fault.UnknownColumn at) bytes = with_declared (matcher_at (at - 1) bytes) bytes
mended (fault.RoleUse at) bytes = with_relation (word_front (matcher_at (at - 1) bytes)) (key_number (word_front (matcher_at (at - 1) bytes)) bytes) bytes
mended fault.NoMemory bytes = None
