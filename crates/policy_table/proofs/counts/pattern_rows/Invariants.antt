use Rattle.std.proofs.Common.{◌≡◌, ◌≤◌, ◌*◌, take}
use Rattle.std.specs.List.{sum_by}
use Rattle.policy_table.specs.Helps.Counts.{patterns_of}
use Rattle.policy_table.proofs.counts.pattern_rows.Given as goal

abbrev pub invariant-loop-shape : goal.invariant-loop-shape
invariant-loop-shape l = record {
  counted : l.count ≡ sum_by (patterns_of l.tables.policy) (take l.shape-index l.shape-items);
  few : l.count ≤ l.shape-index * 4294967296;
}
