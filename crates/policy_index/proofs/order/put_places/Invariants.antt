use Rattle.std.proofs.Common.{◌≡◌, drop, length, take}
use Rattle.policy_table.specs.Slots.{slots}
use Rattle.policy_table.specs.Tables.{rows}
use Rattle.policy_index.specs.Helps.FoundSlots.{ArePlacesOfEach}
use Rattle.policy_index.proofs.order.put_places.Given as goal

abbrev pub invariant-loop-at : goal.invariant-loop-at
invariant-loop-at l = record {
  done : ArePlacesOfEach (slots l.tables l.table) (rows l.tables.policy l.table) (take l.at l.fn.found.items) (take l.at l.found.items);
  left : drop l.at l.found.items ≡ drop l.at l.fn.found.items;
  size : length l.found.items ≡ length l.fn.found.items;
}
