-- The lines of a text, cut at LF or CR LF, and lines with their numbers.
use Rattle.std.specs.Prelude.{ℕ, ◌+◌, List, [], ◌∷◌, map}
use Rattle.text_parts.specs.Lines.{lines_of, without_cr}

-- the lines of a text, cut at LF or CR LF
unfoldable pub text_lines : List ℕ → List (List ℕ)
text_lines bytes = map without_cr (lines_of bytes)

-- a line and its number
pub record Line : Type 0 where
  pub number : ℕ
  pub text : List ℕ

abbrev pub line : ℕ → List ℕ → Line
line number text = record { number = number; text = text }

-- lines, numbered from here on
abbrev pub numbered : ℕ → List (List ℕ) → List Line
numbered number [] = []
numbered number (text ∷ texts) = line number text ∷ numbered (number + 1) texts
