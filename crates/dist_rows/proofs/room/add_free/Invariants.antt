use Rattle.std.proofs.Common.{◌-◌, ◌≤◌, length, max}
use Rattle.dist_rows.specs.Helps.Rows.{AreRows}
use Rattle.dist_rows.proofs.room.add_free.Given as goal

abbrev pub invariant-more : goal.invariant-more
invariant-more l = record {
  rows : AreRows 0 l.room l.free.items;
  more : length l.initial.free.items ≤ length l.free.items;
  few : length l.free.items ≤ max l.count (length l.initial.free.items);
}

abbrev pub decreases-more : goal.decreases-more
decreases-more l = l.count - length l.free.items
