use Rattle.std.proofs.Common.{◌≡◌, ◌+◌, ◌≤◌, length}
use Rattle.script_read.proofs.PairLemmas.{behind_pairs}
use Rattle.script_read.specs.Blocks.{pairs_of}
use Rattle.script_read.proofs.block.pairs_of.Given as goal

abbrev pub invariant-loop-old : goal.invariant-loop-old
invariant-loop-old l = record {
  pairs : behind_pairs l.pairs.items (pairs_of l.rules.rest.items) ≡ pairs_of l.initial.rules.rest.items;
  few : length l.pairs.items + length l.rules.rest.items ≤ length l.initial.rules.rest.items;
}

abbrev pub decreases-loop-old : goal.decreases-loop-old
decreases-loop-old l = length l.rules.rest.items
