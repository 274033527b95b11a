use Rattle.std.proofs.Common.{◌≡◌, ℕ, take}
use Rattle.dist_rows.specs.Helps.Rows.{AreRows, cells_of}
use Rattle.dist_rows.proofs.copies.copy_all.Given as goal

abbrev pub invariant-loop-row : goal.invariant-loop-row
invariant-loop-row l = record {
  cells : cells_of l.copy.items ≡ cells_of (take l.row-index l.rows);
  rows : (size most : ℕ) → AreRows size most l.rows → AreRows size size l.copy.items;
}
