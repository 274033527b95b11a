use Rattle.std.proofs.Common.{◌≡◌, ◌+◌, ◌≤◌, length}
use Rattle.std.specs.Str.{IsUtf8}
use Rattle.script_read.specs.Helps.Ends.{behind_end, end_number}
use Rattle.text_parts.specs.Full.{full_lines}
use Rattle.script_read.proofs.lines.block_end.Given as goal

abbrev pub invariant-loop-at : goal.invariant-loop-at
invariant-loop-at l = record {
  number : end_number (full_lines l.first l.rest) ≡ end_number (full_lines l.number l.text);
  behind : behind_end (full_lines l.first l.rest) ≡ behind_end (full_lines l.number l.text);
  within : l.first + length l.rest ≤ l.number + length l.text;
  shorter : length l.rest ≤ length l.text;
  utf8 : IsUtf8 l.rest;
}

abbrev pub decreases-loop-at : goal.decreases-loop-at
decreases-loop-at l = length l.rest
