use Rattle.std.proofs.Common.{◌≡◌, ◌-◌, ◌≤◌, ◌++◌, replicate, vec_len, vec_capacity}
use Rattle.row_order.proofs.room.fill_counts.Given as goal

abbrev pub invariant-loop-at : goal.invariant-loop-at
invariant-loop-at l = record {
  items : l.counts.items ≡ l.fn.counts.items ++ replicate (l._at - vec_len l.fn.counts) 0;
  len : l._at ≤ l.len → vec_len l.counts ≡ l._at;
  capacity : vec_capacity l.counts ≡ vec_capacity l.fn.counts;
}
