use Rattle.std.proofs.Common.{◌≡◌, List, ◌++◌, take}
use Rattle.perm_value.proofs.CopyLemmas.{IsCopyOf}
use Rattle.perm_value.proofs.MadeLemmas.{Made, MembersMade}
use Rattle.perm_value.proofs.MemberLemmas.{Named}
use Rattle.perm_value.proofs.copy.+copy.Given as goal

abbrev pub invariant-copy_values-loop-value : goal.invariant-copy_values-loop-value
invariant-copy_values-loop-value l = Made IsCopyOf (take l.value-index l.value-items) l.copies.items

abbrev pub invariant-copy_members-loop-name : goal.invariant-copy_members-loop-name
invariant-copy_members-loop-name l =
    (done : List Named) × (l.object.entries ≡ done ++ l.name-iterator) × MembersMade IsCopyOf done l.copies.entries
