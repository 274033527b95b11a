use Rattle.std.proofs.Common.{◌≡◌, ◌≤◌, ◌*◌, take}
use Rattle.std.specs.List.{sum_by}
use Rattle.policy_table.specs.Helps.Counts.{pairs_of}
use Rattle.policy_table.proofs.counts.domain_pairs.Given as goal

abbrev pub invariant-loop-shape : goal.invariant-loop-shape
invariant-loop-shape l = record {
  counted : l.count ≡ sum_by (pairs_of l.tables.policy) (take l.shape-index l.shape-items);
  few : l.count ≤ l.shape-index * 4294967296;
}
