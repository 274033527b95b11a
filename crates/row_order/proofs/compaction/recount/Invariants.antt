use Rattle.std.proofs.Common.{◌≡◌, length, take}
use Rattle.row_order.specs.Helps.Cells.{live, IsCounted}
use Rattle.row_order.proofs.compaction.recount.Given as goal

abbrev pub invariant-loop-at : goal.invariant-loop-at
invariant-loop-at l = record {
  counted : IsCounted l.cells l.rank l.before l.at;
  count : l.count ≡ length (live (take l.at l.cells));
}
