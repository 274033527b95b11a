use Rattle.std.proofs.Common.{◌≡◌, List, ◌++◌, drop}
use Rattle.std.specs.Slice.Iter.{iter_rest}
use Rattle.perm_value.specs.Equality.{items_eq, members_eq}
use Rattle.perm_value.specs.Seen.{datum_of_view, items, members}
use Rattle.perm_value.proofs.MemberLemmas.{Named, listed}
use Rattle.perm_value.proofs.WeightLemmas.{weight, items_weight, members_weight}
use Rattle.perm_value.proofs.compare.+same.Given as goal

abbrev pub decreases-is_same : goal.decreases-is_same
decreases-is_same l = weight (datum_of_view l.one.now)

abbrev pub decreases-are_same_items : goal.decreases-are_same_items
decreases-are_same_items l = items_weight (items l.values.now)

abbrev pub decreases-are_same_members : goal.decreases-are_same_members
decreases-are_same_members l = members_weight (members l.object.now.entries)

abbrev pub invariant-are_same_items-loop-value : goal.invariant-are_same_items-loop-value
invariant-are_same_items-loop-value l =
    items_eq (items l.fn.values) (items l.fn.others) ≡ items_eq (items (drop l.value-index l.fn.values)) (items (iter_rest l.others))

abbrev pub invariant-are_same_members-loop-name : goal.invariant-are_same_members-loop-name
invariant-are_same_members-loop-name l =
    (done : List Named) × (l.fn.object.entries ≡ done ++ l.name-iterator)
    × (members_eq (listed l.fn.object.entries) (listed l.fn.other.entries) ≡ members_eq (listed l.name-iterator) (listed l.others))
