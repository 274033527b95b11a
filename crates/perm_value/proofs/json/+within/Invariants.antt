use Rattle.std.proofs.Common.{◌≡◌, true, List, ◌++◌, take}
use Rattle.std.specs.List.{list_all}
use Rattle.serde_json.proofs.Views.{Entry}
use Rattle.perm_value.proofs.WithinLemmas.{no_deeper, member_no_deeper}
use Rattle.perm_value.proofs.json.+within.Given as goal

abbrev pub invariant-are_items_within-loop-item : goal.invariant-are_items_within-loop-item
invariant-are_items_within-loop-item l = list_all (no_deeper l.levels) (take l.item-index l.item-items) ≡ true

abbrev pub invariant-are_members_within-loop-member : goal.invariant-are_members_within-loop-member
invariant-are_members_within-loop-member l =
    (done : List Entry) × (l.members.entries ≡ done ++ l.member-iterator) × (list_all (member_no_deeper l.levels) done ≡ true)
