use Rattle.std.proofs.Common.{◌≡◌, List, ◌++◌, take}
use Rattle.serde_json.proofs.Views.{Entry}
use Rattle.perm_value.proofs.MadeLemmas.{Made, MembersMade}
use Rattle.perm_value.proofs.ValueLemmas.{IsOfJson}
use Rattle.perm_value.proofs.json.+values.Given as goal

abbrev pub invariant-values_of-loop-item : goal.invariant-values_of-loop-item
invariant-values_of-loop-item l = Made IsOfJson (take l.item-index l.item-items) l.values.items

abbrev pub invariant-members_of-loop-key : goal.invariant-members_of-loop-key
invariant-members_of-loop-key l =
    (done : List Entry) × (l.object.entries ≡ done ++ l.key-iterator) × MembersMade IsOfJson done l.copies.entries
