use Rattle.std.proofs.Common.{◌≡◌, ◌+◌, ◌<◌, ap, arith, get_or, length, refl, subst, sym}
use Rattle.std.proofs.lemmas.List.{length-set}
use Rattle.policy_index.specs.Helps.Kept.{IsAt, is_front, one_if}
use Rattle.policy_index.specs.Indexed.{Indexed}
use Rattle.policy_index.specs.Lists.{room_at}
use Rattle.policy_index.specs.declared.mark.Mark.{Mark}
use Rattle.policy_index.proofs.MarkLemmas.{counted_set, front_counted, front_replaced, listed_set, took_at}
use Rattle.policy_index.proofs.PlaceLemmas.{at_one, at_within, listed_few, placed_set}
use Rattle.policy_index.proofs.index.Index.set.Goals as goal

pub unlist-requires-clause-within : goal.unlist-requires-clause-within
unlist-requires-clause-within c = omega (arith, c.requires.slot, c.self.invariant.placed.sizes, ap (λ (i : Indexed). length i.marks) c.self.view_is)

pub unlist-requires-clause-there : goal.unlist-requires-clause-there
unlist-requires-clause-there c =
    let within : c.args.slot < length c.self.inside.marks.items = omega (arith, c.requires.slot, ap (λ (i : Indexed). length i.marks) c.self.view_is) in
    subst (λ (m : Mark). IsAt c.self.inside.slots m.hash (get_or c.self.inside.places.items c.args.slot 0) c.args.slot) (sym c.index-gone.ensures) (c.self.invariant.placed.each c.args.slot c.index-gone.result.now within)

pub unlist-requires-clause-below : goal.unlist-requires-clause-below
unlist-requires-clause-below c = λ at held stands.
    omega (arith, at_within c.self.inside.marks.items c.self.inside.slots c.index-gone.result.now.hash at held c.self.invariant.listed stands, c.self.invariant.placed.sizes)

pub unlist-requires-clause-own : goal.unlist-requires-clause-own
unlist-requires-clause-own c = at_one c.self.inside.marks.items c.self.inside.slots c.self.invariant.listed

pub next_place-place-requires : goal.next_place-place-requires
next_place-place-requires c =
    omega (arith, c.unlist.ensures.shorter c.args.mark.hash, listed_few c.self.inside.marks.items c.self.inside.slots c.args.mark.hash c.self.invariant.listed, c.self.invariant.few)

pub index_mut-requires-2 : goal.index_mut-requires-2
index_mut-requires-2 c = omega (arith, c.requires.slot, c.unlist.ensures.sizes, c.self.invariant.placed.sizes, ap (λ (i : Indexed). length i.marks) c.self.view_is, c.unlist.new.places.ok.0)

pub put-requires : goal.put-requires
put-requires c = omega (arith, c.requires.room, c.unlist.ensures.room c.args.mark.hash, ap (λ (i : Indexed). room_at i.lists c.args.mark.hash) c.self.view_is)

pub take-requires : goal.take-requires
take-requires c =
    let within : c.args.slot < length c.self.inside.marks.items = omega (arith, c.requires.slot, ap (λ (i : Indexed). length i.marks) c.self.view_is) in
    record { some = front_counted c.self.inside.marks.items c.self.inside.fronts c.args.slot c.index-gone.result.now within c.index-gone.ensures c.self.invariant.counted }

pub add-requires : goal.add-requires
add-requires c =
    let within : c.args.slot < length c.self.inside.marks.items = omega (arith, c.requires.slot, ap (λ (i : Indexed). length i.marks) c.self.view_is) in
    record { few = front_replaced c.self.inside.marks.items c.self.inside.fronts c.take.new.self c.args.slot c.index-gone.result.now c.args.mark c.self.invariant.few within c.index-gone.ensures c.self.invariant.counted c.take.ensures.counts }

pub invariant_of-self : goal.invariant_of-self
invariant_of-self c =
    let within : c.args.slot < length c.self.inside.marks.items = omega (arith, c.requires.slot, ap (λ (i : Indexed). length i.marks) c.self.view_is) in
    record {
      few = omega (arith, c.self.invariant.few, length-set c.self.inside.marks.items c.args.slot c.args.mark);
      listed =
          listed_set c.self.inside.marks.items c.args.slot within c.index-gone.result.now c.args.mark c.self.inside.slots c.unlist.new.slots c.put.new.self c.self.invariant.listed
          (took_at c.self.inside.marks.items c.args.slot c.index-gone.result.now c.index-gone.ensures c.self.inside.slots c.unlist.new.slots c.unlist.ensures.slots) c.put.ensures.slots;
      counted =
          counted_set c.self.inside.marks.items c.args.slot c.args.mark c.index-gone.result.now c.self.inside.fronts c.take.new.self c.add.new.self within c.self.invariant.counted c.take.ensures.sizes c.add.ensures.sizes
          (λ size. subst (λ (m : Mark). get_or c.take.new.self size 0 + one_if (is_front size m.front) ≡ get_or c.self.inside.fronts size 0) c.index-gone.ensures (c.take.ensures.counts size)) c.add.ensures.counts;
      placed =
          placed_set c.self.inside.marks.items c.args.slot c.next_place-place.result c.args.mark c.self.inside.places.items c.unlist.new.places.items _ c.self.inside.slots c.unlist.new.slots c.put.new.self within c.unlist.ensures.sizes refl
          c.next_place-place.ensures c.put.ensures.slots c.self.invariant.placed c.unlist.ensures.placed;
    }

pub returns-clause-room : goal.returns-clause-room
returns-clause-room c = λ hash. omega (arith, ap (λ (i : Indexed). room_at i.lists hash) c.self.view_is, c.unlist.ensures.room hash, c.put.ensures.room hash)

pub returns-clause-spare : goal.returns-clause-spare
returns-clause-spare c = omega (arith, ap (λ (i : Indexed). i.spare) c.self.view_is, c.unlist.ensures.sizes, c.unlist.ensures.capacity, c.unlist.new.places.ok.0, c.self.inside.places.ok.0)
