-- Texts of lines and of pieces.
use Rattle.std.specs.Prelude.{List, ℕ, flat_map}
use Rattle.answer_lines.specs.LineText.{line_text}
use Rattle.answer_lines.specs.declared.answer.Line.{Line}

-- the lines of answers
abbrev pub text_of_lines : List Line → List ℕ
text_of_lines lines = flat_map line_text lines

-- pieces, one behind the other
abbrev pub joined : List (List ℕ) → List ℕ
joined pieces = flat_map (λ (piece : List ℕ). piece) pieces
