-- The lines of a script that count, and the word and the arguments of a line.
use Rattle.std.specs.Prelude.{ℕ, Bool, List, [], ◌∷◌, codes, filter, not, if◌then◌else◌}
use Rattle.std.specs.Str.{bytes_eq}
use Rattle.text_parts.specs.Blanks.{before_blanks, is_blank, trimmed}
use Rattle.text_parts.specs.Full.{full_lines}
use Rattle.text_parts.specs.Numbered.{Line, text_lines}
use Rattle.text_parts.specs.Passed.{is_passed}

-- the lines of a text, cut at LF or CR LF, that are neither blank nor comments
unfoldable pub requests_of : List ℕ → List (List ℕ)
requests_of text = filter (λ (line : List ℕ). not (is_passed line)) (text_lines text)

-- those of a script, whose text's lines are numbered from 1
abbrev pub script_lines : List ℕ → List Line
script_lines bytes = full_lines 1 bytes

-- what stands before the first blank, or all
abbrev pub word_of : List ℕ → List ℕ
word_of [] = []
word_of (byte ∷ bytes) = if is_blank byte then [] else byte ∷ word_of bytes

-- what stands from the first blank on
abbrev pub behind_word : List ℕ → List ℕ
behind_word [] = []
behind_word (byte ∷ bytes) = if is_blank byte then byte ∷ bytes else behind_word bytes

-- what stands behind the word, without the blanks at both ends
abbrev pub arguments_of : List ℕ → List ℕ
arguments_of line = trimmed (behind_word line)

-- the line begins a block, whatever stands behind the word
abbrev pub begins_block : List ℕ → Bool
begins_block line = bytes_eq (word_of line) (codes "begin")

-- the line ends a block: the word alone, and blanks behind it at most
abbrev pub ends_block : List ℕ → Bool
ends_block line = bytes_eq (before_blanks line) (codes "end")
