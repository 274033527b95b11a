use Rattle.std.proofs.Common.{◌≡◌, ℕ, take}
use Rattle.dist_rows.specs.Helps.Rows.{AreRows, cells_of}
use Rattle.dist_rows.proofs.room.reserve_all.Given as goal

abbrev pub invariant-loop-row : goal.invariant-loop-row
invariant-loop-row l = record {
  cells : cells_of l.rows ≡ cells_of l.initial.rows;
  more : (size most : ℕ) → AreRows size most l.initial.rows → AreRows size most l.rows;
  room : (size most : ℕ) → AreRows size most l.initial.rows → AreRows size l.room (take l.row-index l.rows);
}
