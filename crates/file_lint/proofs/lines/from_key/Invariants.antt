use Rattle.std.proofs.Common.{◌≡◌, ◌+◌, ◌≤◌, false, length}
use Rattle.std.specs.Str.{IsUtf8}
use Rattle.text_parts.specs.Numbered.{numbered, text_lines}
use Rattle.file_lint.specs.Places.{file_lines, from_key}
use Rattle.file_lint.proofs.lines.from_key.Given as goal

abbrev pub invariant-loop-line : goal.invariant-loop-line
invariant-loop-line l = record { left : from_key l.key l.continued (numbered l.number (text_lines l.rest)) ≡ from_key l.key false (file_lines l.text); within : l.number + length l.rest ≤ 1 + length l.text; utf8 : IsUtf8 l.rest }

abbrev pub decreases-loop-line : goal.decreases-loop-line
decreases-loop-line l = length l.rest
