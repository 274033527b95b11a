use Rattle.std.proofs.Common.{◌≡◌, ◌≤◌, take}
use Rattle.std.specs.List.{count_by}
use Rattle.policy_table.specs.Helps.Counts.{inserts}
use Rattle.policy_table.proofs.rows_after.inserted.Given as goal

abbrev pub invariant-loop-change : goal.invariant-loop-change
invariant-loop-change l = record {
  counted : l.count ≡ count_by (inserts l.table) (take l.change-index l.changes);
  few : l.count ≤ l.change-index;
}
