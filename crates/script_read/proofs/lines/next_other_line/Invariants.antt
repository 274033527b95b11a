use Rattle.std.proofs.Common.{◌+◌, ◌≤◌, length}
use Rattle.std.specs.Str.{IsUtf8}
use Rattle.script_read.specs.Helps.Asks.{AreBehindAsked}
use Rattle.text_parts.specs.Full.{full_lines}
use Rattle.script_read.proofs.lines.next_other_line.Given as goal

abbrev pub invariant-loop-line : goal.invariant-loop-line
invariant-loop-line l = record {
  behind : AreBehindAsked (full_lines l.number l.text) (full_lines l.at l.rest);
  within : l.at + length l.rest ≤ l.number + length l.text;
  shorter : length l.rest ≤ length l.text;
  utf8 : IsUtf8 l.rest;
}

abbrev pub decreases-loop-line : goal.decreases-loop-line
decreases-loop-line l = length l.rest
