use Rattle.std.proofs.Common.{◌≡◌, ◌+◌, ◌≤◌, length}
use Rattle.std.specs.Str.{IsUtf8}
use Rattle.text_parts.specs.Numbered.{line, numbered, text_lines}
use Rattle.file_lint.specs.Places.{place_in}
use Rattle.file_lint.proofs.lines.place_in.Given as goal

abbrev pub invariant-loop-next : goal.invariant-loop-next
invariant-loop-next l = record {
  left : place_in (line l.at l.text) (numbered (l.at + 1) (text_lines l.rest)) l.left ≡ place_in (line l.number l.first) (numbered (l.number + 1) (text_lines l.behind)) l.before;
  within : l.at + length l.rest ≤ l.number + length l.behind;
  few : l.left ≤ l.before;
  utf8 : IsUtf8 l.rest;
  text_utf8 : IsUtf8 l.text;
}

abbrev pub decreases-loop-next : goal.decreases-loop-next
decreases-loop-next l = length l.rest
