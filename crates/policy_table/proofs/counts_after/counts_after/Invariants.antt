use Rattle.std.proofs.Common.{◌≡◌, ◌≤◌, ◌*◌, take}
use Rattle.std.specs.List.{sum_by}
use Rattle.policy_table.specs.Changes.{edited}
use Rattle.policy_table.specs.Helps.Counts.{pairs_of, patterns_of}
use Rattle.policy_table.proofs.counts_after.counts_after.Given as goal

abbrev pub invariant-loop-shape : goal.invariant-loop-shape
invariant-loop-shape l = record {
  patterns : l.patterns ≡ sum_by (patterns_of (edited l.edit l.tables.policy)) (take l.shape-index l.shape-items);
  pairs : l.pairs ≡ sum_by (pairs_of (edited l.edit l.tables.policy)) (take l.shape-index l.shape-items);
  few_patterns : l.patterns ≤ l.shape-index * 4294967296;
  few_pairs : l.pairs ≤ l.shape-index * 4294967296;
}
