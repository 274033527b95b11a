use Rattle.std.proofs.Common.{◌≡◌, ◌<◌, ℕ, List, [], length, true, false, eqb, eqb-true, Some, refl, sym, ap, ◌∙◌, arith}
use Rattle.std.specs.Int.Digits.{number_from_digits}
use Rattle.std.proofs.lemmas.Bool.{eqb-false}
use Rattle.std.proofs.lemmas.List.{nil_from_length}
use Rattle.ip_match.specs.declared.colons.Groups.{Groups}
use Rattle.ip_match.specs.Addresses.{AreGroups, group_numbers}
use Rattle.ip_match.proofs.OptionLemmas.{IfSome-from_iff, some_from_iff}
use Rattle.ip_match.proofs.GroupLemmas.{no_groups, walked_on, walked_more, walked_all, ended_is}
use Rattle.ip_match.proofs.colons.read_groups.Goals as goal

abbrev groups_read : ℕ → ℕ → Groups
groups_read count number = record { count = count; number = number }

same_read : (count number m n : ℕ) → count ≡ m → number ≡ n → groups_read count number ≡ groups_read m n
same_read count number m n e f = rw (e, f) refl

no_text : (text : List ℕ) → true ≡ eqb (length text) 0 → text ≡ []
no_text text e = nil_from_length text (eqb-true (length text) 0 (sym e))

some_text : (text : List ℕ) → false ≡ eqb (length text) 0 → 0 < length text
some_text text e = let some = eqb-false (length text) 0 (sym e) in omega (arith, some)

empty_only : (text : List ℕ) (groups : List (List ℕ)) → text ≡ [] → AreGroups text groups → groups_read 0 0 ≡ groups_read (length groups) (number_from_digits 65536 (group_numbers groups))
empty_only text groups none h = let bare = rw none at h in rw (no_groups groups bare) refl

pub returns-then-is_empty-clause-only : goal.returns-then-is_empty-clause-only
returns-then-is_empty-clause-only c = λ groups h most.
    ap Some (empty_only c.args.text.now groups (no_text c.args.text.now c.if-is_empty.ensures) h)

pub returns-in_err-read_group-clause-only : goal.returns-in_err-read_group-clause-only
returns-in_err-read_group-clause-only c = λ groups h most.
    let on = walked_on _ _ _ _ _ _ c.loop-part.invariant c.in-Some.ensures.parts (some_text c.args.text.now c.if-is_empty.ensures) groups h most in
    absurd (c.in_err-read_group.ensures on.0)

pub returns-in_err-groups-clause-only : goal.returns-in_err-groups-clause-only
returns-in_err-groups-clause-only c = λ groups h most.
    let on = walked_on _ _ _ _ _ _ c.loop-part.invariant c.in-Some.ensures.parts (some_text c.args.text.now c.if-is_empty.ensures) groups h most in
    absurd (c.in_err-groups.ensures on.1)

pub loop-part-preserved : goal.loop-part-preserved
loop-part-preserved c =
    let group = c.in_ok-read_group.ensures in
    let pushed = c.in_ok-groups.ensures in
    rw (pushed.1, group.1) (walked_more _ _ _ _ _ _ c.loop-part.invariant c.in-Some.ensures.parts group.0 pushed.0)

pub returns-in_err-read_group-2-clause-only : goal.returns-in_err-read_group-2-clause-only
returns-in_err-read_group-2-clause-only c = λ groups h most.
    let on = walked_on _ _ _ _ _ _ c.loop-part.invariant c.in_default.ensures.parts (some_text c.args.text.now c.if-is_empty.ensures) groups h most in
    absurd (c.in_err-read_group-2.ensures on.0)

pub returns-clause-found : goal.returns-clause-found
returns-clause-found c =
    let group = c.in_ok-read_group-2.ensures in
    IfSome-from_iff c.push-2.result _ _ _ c.push-2.ensures (λ room is.
    let all = walked_all _ _ _ _ c.loop-part.invariant c.in_default.ensures.parts group.0 room in
    (all.groups, all.spelled, same_read _ _ _ _ all.count_is (omega (arith, group.1, all.number_is))))

pub returns-clause-only : goal.returns-clause-only
returns-clause-only c = λ groups h most.
    let group = c.in_ok-read_group-2.ensures in
    let some = some_text c.args.text.now c.if-is_empty.ensures in
    let on = walked_on _ _ _ _ _ _ c.loop-part.invariant c.in_default.ensures.parts some groups h most in
    let all = walked_all _ _ _ _ c.loop-part.invariant c.in_default.ensures.parts group.0 on.1 in
    let are = ended_is _ _ _ all some groups h in
    some_from_iff c.push-2.result _ _ c.push-2.ensures on.1 ∙ ap Some (same_read _ _ _ _ are.0 (omega (arith, group.1, are.1)))

pub returns-clause-small : goal.returns-clause-small
returns-clause-small c =
    let group = c.in_ok-read_group-2.ensures in
    IfSome-from_iff c.push-2.result _ _ _ c.push-2.ensures (λ room is.
    let all = walked_all _ _ _ _ c.loop-part.invariant c.in_default.ensures.parts group.0 room in
    rw group.1 all.small)
