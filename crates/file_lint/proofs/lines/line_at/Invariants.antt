use Rattle.std.proofs.Common.{◌≡◌, ◌+◌, ◌≤◌, length}
use Rattle.std.specs.Str.{IsUtf8}
use Rattle.text_parts.specs.Numbered.{numbered, text_lines}
use Rattle.file_lint.specs.Places.{file_lines, line_at}
use Rattle.file_lint.proofs.lines.line_at.Given as goal

abbrev pub invariant-loop-line : goal.invariant-loop-line
invariant-loop-line l = record { left : line_at l.number (numbered l.at (text_lines l.rest)) ≡ line_at l.number (file_lines l.text); within : l.at + length l.rest ≤ 1 + length l.text; utf8 : IsUtf8 l.rest }

abbrev pub decreases-loop-line : goal.decreases-loop-line
decreases-loop-line l = length l.rest
