use Rattle.std.proofs.Common.{◌≡◌, ◌+◌, ◌≤◌, length}
use Rattle.std.specs.Str.{IsUtf8}
use Rattle.script_read.proofs.BlockLemmas.{behind_rules, left}
use Rattle.text_parts.specs.Full.{full_lines}
use Rattle.script_read.specs.Results.{mapped}
use Rattle.script_read.proofs.block.read_rules.Given as goal

abbrev pub invariant-loop-at : goal.invariant-loop-at
invariant-loop-at l = record {
  reads : mapped (behind_rules l.rules.items) (left l.table (full_lines l.first l.rest)) ≡ left l.fn.table (full_lines l.number l.text);
  within : l.first + length l.rest ≤ l.number + length l.text;
  utf8 : IsUtf8 l.rest;
}

abbrev pub decreases-loop-at : goal.decreases-loop-at
decreases-loop-at l = length l.rest
