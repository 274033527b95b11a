-- The lines of a text that count: neither blank nor comments (Casbin, policy).
use Rattle.std.specs.Prelude.{ℕ, List, filter, min, not}
use Rattle.text_parts.specs.Numbered.{Line, numbered, text_lines}
use Rattle.text_parts.specs.Passed.{is_passed}

-- the lines of a text, cut at LF or CR LF, that are not passed over, numbered from here on
unfoldable pub full_lines : ℕ → List ℕ → List Line
full_lines number text = filter (λ (line : Line). not (is_passed line.text)) (numbered number (text_lines text))

-- a line's number as it is given
abbrev pub given_number : ℕ → ℕ
given_number number = min number 4_294_967_295
