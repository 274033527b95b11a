use Rattle.std.proofs.Common.{◌≡◌, drop}
use Rattle.perm_value.specs.Seen.{datum_of_view, items}
use Rattle.matcher_meaning.specs.Operators.{has_item}
use Rattle.matcher_code.proofs.operators.has_item.Given as goal

abbrev pub invariant-loop-item : goal.invariant-loop-item
invariant-loop-item l = has_item (datum_of_view l.value) (items l.list) ≡ has_item (datum_of_view l.value) (items (drop l.item-index l.list))
