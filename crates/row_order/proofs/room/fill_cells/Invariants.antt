use Rattle.std.proofs.Common.{◌≡◌, ◌-◌, ◌≤◌, ◌++◌, replicate, vec_len, vec_capacity, None}
use Rattle.row_order.proofs.room.fill_cells.Given as goal

abbrev pub invariant-loop-at : goal.invariant-loop-at
invariant-loop-at l = record {
  items : l.cells.items ≡ l.fn.cells.items ++ replicate (l._at - vec_len l.fn.cells) None;
  len : l._at ≤ l.len → vec_len l.cells ≡ l._at;
  capacity : vec_capacity l.cells ≡ vec_capacity l.fn.cells;
}
