use Rattle.std.proofs.Common.{◌≡◌, ◌++◌, ◌∷◌, [], List, ℕ, ap, arith, length, subst, sym}
use Rattle.policy_index.specs.Helps.Kept.{IsIndex}
use Rattle.policy_index.specs.Indexed.{Indexed}
use Rattle.policy_index.specs.declared.mark.Mark.{Mark}
use Rattle.policy_index.proofs.MarkLemmas.{counted_push, front_fits, listed_push, longer}
use Rattle.policy_index.proofs.PlaceLemmas.{listed_few, placed_push}
use Rattle.policy_index.proofs.index.Index.push.Goals as goal

pub next_place-place-requires : goal.next_place-place-requires
next_place-place-requires c = omega (arith, listed_few c.self.inside.marks.items c.self.inside.slots c.args.mark.hash c.self.invariant.listed, c.self.invariant.few)

pub add-requires : goal.add-requires
add-requires c = record { few = front_fits c.self.inside.marks.items c.self.inside.fronts c.args.mark (omega (arith, c.requires.few, ap (λ (i : Indexed). length i.marks) c.self.view_is)) c.self.invariant.counted }

pub push_reserved-requires : goal.push_reserved-requires
push_reserved-requires c = omega (arith, c.requires.spare, ap (λ (i : Indexed). i.spare) c.self.view_is)

pub push_reserved-requires-2 : goal.push_reserved-requires-2
push_reserved-requires-2 c = omega (arith, c.requires.spare, ap (λ (i : Indexed). i.spare) c.self.view_is)

pub invariant_of-self : goal.invariant_of-self
invariant_of-self c =
    let last : c.len-slot.result ≡ length c.self.inside.marks.items = omega arith in
    subst (λ (p : List ℕ). IsIndex c.push_reserved.new.self.items c.put.new.self c.add.new.self p) (sym c.push_reserved-2.ensures.items)
    (subst (λ (l : List Mark). IsIndex l c.put.new.self c.add.new.self (c.self.inside.places.items ++ c.next_place-place.result ∷ [])) (sym c.push_reserved.ensures.items) (record {
      few = omega (arith, c.requires.few, ap (λ (i : Indexed). length i.marks) c.self.view_is, longer c.self.inside.marks.items c.args.mark);
      listed = listed_push c.self.inside.marks.items c.args.mark c.len-slot.result c.self.inside.slots c.put.new.self last c.self.invariant.listed c.put.ensures.slots;
      counted = counted_push c.self.inside.marks.items c.args.mark c.self.inside.fronts c.add.new.self c.self.invariant.counted c.add.ensures.sizes c.add.ensures.counts;
      placed = placed_push c.self.inside.marks.items c.args.mark c.len-slot.result c.next_place-place.result c.self.inside.slots c.put.new.self c.self.inside.places.items last c.next_place-place.ensures c.put.ensures.slots c.self.invariant.placed;
    }))

pub returns-clause-spare : goal.returns-clause-spare
returns-clause-spare c =
    omega (arith, ap (λ (i : Indexed). i.spare) c.self.view_is, c.push_reserved.ensures.len, c.push_reserved.ensures.capacity, c.push_reserved-2.ensures.len, c.push_reserved-2.ensures.capacity)
