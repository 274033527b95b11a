use Rattle.std.proofs.Common.{◌+◌, ◌≤◌, length}
use Rattle.std.specs.Str.{IsUtf8}
use Rattle.script_read.proofs.ScriptLemmas.{whole}
use Rattle.script_read.proofs.WalkLemmas.{GoesOn}
use Rattle.text_parts.specs.Full.{full_lines}
use Rattle.script_read.proofs.walk.check_script.Given as goal

abbrev pub invariant-loop-at : goal.invariant-loop-at
invariant-loop-at l = record {
  reads : GoesOn l.json (full_lines l.number l.rest) (whole l.json l.text);
  within : l.number + length l.rest ≤ 1 + length l.text;
  utf8 : IsUtf8 l.rest;
}

abbrev pub decreases-loop-at : goal.decreases-loop-at
decreases-loop-at l = length l.rest
