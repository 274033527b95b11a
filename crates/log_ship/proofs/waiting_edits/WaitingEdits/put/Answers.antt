use Rattle.std.proofs.Common.{◌≡◌, ◌≤◌, ℕ, List, ap, length, vec_len, ◌∙◌, arith, rules}
use Rattle.std.specs.Prelude.{nat_le}
use Rattle.std.specs.List.{insert}
use Rattle.std.proofs.lemmas.List.Sums.{prefix_len-le-length}
use Rattle.log_ship.proofs.WaitLemmas.{place_in, put_held}
use Rattle.log_ship.specs.Helps.Waits.{held_by}
use Rattle.log_ship.specs.Taken.{put}
use Rattle.log_ship.proofs.waiting_edits.WaitingEdits.put.Goals as goal

pub insert-requires : goal.insert-requires
insert-requires c =
    let place : c.place_of-place.result ≤ length c.deref.result.now = subst-place c.deref.result.now c.place_of-place.result c.place_of-place.ensures in
    let size : length c.self.inside.edits.items ≡ vec_len c.self.inside.edits = search rules in
    omega (arith, place, size, c.self.invariant, ap (λ (l : List ℕ). length l) c.deref.ensures.value)
  where
    subst-place : (numbers : List ℕ) (place : ℕ) → place ≡ place_in c.args.number numbers → place ≤ length numbers
    subst-place numbers place e = omega (arith, e, prefix_len-le-length (λ (other : ℕ). nat_le other c.args.number) numbers)

pub insert-requires-2 : goal.insert-requires-2
insert-requires-2 c =
    let place : c.place_of-place.result ≤ length c.deref.result.now = within c.deref.result.now c.place_of-place.result c.place_of-place.ensures in
    omega (arith, place, c.deref.ensures.len, c.reserve.ensures.len)
  where
    within : (numbers : List ℕ) (place : ℕ) → place ≡ place_in c.args.number numbers → place ≤ length numbers
    within numbers place e = omega (arith, e, prefix_len-le-length (λ (other : ℕ). nat_le other c.args.number) numbers)

pub returns-clause-put : goal.returns-clause-put
returns-clause-put c =
    let place : c.place_of-place.result ≡ place_in c.args.number c.self.inside.numbers.items = c.place_of-place.ensures ∙ ap (place_in c.args.number) c.deref.ensures.value in
    let numbers : c.insert-2.new.self.items ≡ insert c.self.inside.numbers.items c.place_of-place.result c.args.number = search rules in
    let edits : c.insert.new.self.items ≡ insert c.self.inside.edits.items c.place_of-place.result c.args.edit = search rules in
    (λ j. held_by (numbers j) (edits j))
    ∙ ap (λ (n : ℕ). held_by (insert c.self.inside.numbers.items n c.args.number) (insert c.self.inside.edits.items n c.args.edit)) place
    ∙ put_held c.args.number c.args.edit c.self.inside.numbers.items c.self.inside.edits.items c.self.invariant
    ∙ ap (put (record { number = c.args.number; edit = c.args.edit })) c.self.view_is
