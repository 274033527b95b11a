use Rattle.std.proofs.Common.{◌≡◌, ◌+◌, ◌<◌, ◌∙◌, List, ap, arith, get_or, length, subst, sym}
use Rattle.std.specs.List.{swap_remove}
use Rattle.policy_index.specs.Helps.Kept.{IsAt, IsIndex, is_front, one_if}
use Rattle.policy_index.specs.Indexed.{Indexed}
use Rattle.policy_index.specs.Lists.{room_at}
use Rattle.policy_index.specs.declared.mark.Mark.{Mark}
use Rattle.policy_index.proofs.MarkLemmas.{counted_remove, front_counted, listed_left, shorter, swap_same}
use Rattle.policy_index.proofs.PlaceLemmas.{at_one, at_within, last_at, placed_left}
use Rattle.policy_index.proofs.index.Index.remove.Goals as goal

pub unlist-requires-clause-within : goal.unlist-requires-clause-within
unlist-requires-clause-within c = omega (arith, c.requires, c.self.invariant.placed.sizes, ap (λ (i : Indexed). length i.marks) c.self.view_is)

pub unlist-requires-clause-there : goal.unlist-requires-clause-there
unlist-requires-clause-there c =
    let within : c.args.slot < length c.self.inside.marks.items = omega (arith, c.requires, ap (λ (i : Indexed). length i.marks) c.self.view_is) in
    subst (λ (m : Mark). IsAt c.self.inside.slots m.hash (get_or c.self.inside.places.items c.args.slot 0) c.args.slot) (sym c.swap_remove-gone.ensures.value) (c.self.invariant.placed.each c.args.slot c.swap_remove-gone.result within)

pub unlist-requires-clause-below : goal.unlist-requires-clause-below
unlist-requires-clause-below c = λ at held stands.
    omega (arith, at_within c.self.inside.marks.items c.self.inside.slots c.swap_remove-gone.result.hash at held c.self.invariant.listed stands, c.self.invariant.placed.sizes)

pub unlist-requires-clause-own : goal.unlist-requires-clause-own
unlist-requires-clause-own c = at_one c.self.inside.marks.items c.self.inside.slots c.self.invariant.listed

pub index-place-requires : goal.index-place-requires
index-place-requires c = omega (arith, c.requires, c.unlist.ensures.sizes, c.self.invariant.placed.sizes, ap (λ (i : Indexed). length i.marks) c.self.view_is, c.unlist.new.places.ok.0)

pub swap_remove-place-requires : goal.swap_remove-place-requires
swap_remove-place-requires c = omega (arith, c.requires, c.unlist.ensures.sizes, c.self.invariant.placed.sizes, ap (λ (i : Indexed). length i.marks) c.self.view_is, c.unlist.new.places.ok.0)

pub rename-requires : goal.rename-requires
rename-requires c =
    let within : c.args.slot < length c.self.inside.marks.items = omega (arith, c.requires, ap (λ (i : Indexed). length i.marks) c.self.view_is) in
    last_at c.self.inside.marks.items c.args.slot _ c.index-moved.result.now.hash c.index-place.result.now c.index-moved.result.now c.self.inside.places.items c.unlist.new.places.items c.self.inside.slots c.unlist.new.slots within (omega arith)
    (ap (λ (m : Mark). m.hash) c.index-moved.ensures) c.index-place.ensures c.unlist.ensures.sizes c.self.invariant.placed c.unlist.ensures.placed

pub take-requires : goal.take-requires
take-requires c =
    let within : c.args.slot < length c.self.inside.marks.items = omega (arith, c.requires, ap (λ (i : Indexed). length i.marks) c.self.view_is) in
    record { some = front_counted c.self.inside.marks.items c.self.inside.fronts c.args.slot c.swap_remove-gone.result within c.swap_remove-gone.ensures.value c.self.invariant.counted }

pub invariant_of-self : goal.invariant_of-self
invariant_of-self c =
    let within : c.args.slot < length c.self.inside.marks.items = omega (arith, c.requires, ap (λ (i : Indexed). length i.marks) c.self.view_is) in
    subst (λ (l : List Mark). IsIndex l c.rename.new.slots c.take.new.self c.swap_remove-place.new.self.items) (sym c.swap_remove-gone.ensures.items) (record {
      few = omega (arith, c.self.invariant.few, shorter c.self.inside.marks.items c.args.slot within c.swap_remove-gone.result);
      listed =
          listed_left c.self.inside.marks.items c.args.slot _ c.index-moved.result.now.hash c.swap_remove-gone.result c.index-moved.result.now within c.swap_remove-gone.ensures.value (omega arith) (ap (λ (m : Mark). m.hash) c.index-moved.ensures)
          c.self.inside.slots c.unlist.new.slots c.rename.new.slots c.self.invariant.listed c.unlist.ensures.slots c.rename.ensures.slots;
      counted =
          counted_remove c.self.inside.marks.items c.args.slot c.swap_remove-gone.result c.self.inside.fronts c.take.new.self within c.self.invariant.counted c.take.ensures.sizes
          (λ size. subst (λ (m : Mark). get_or c.take.new.self size 0 + one_if (is_front size m.front) ≡ get_or c.self.inside.fronts size 0) c.swap_remove-gone.ensures.value (c.take.ensures.counts size));
      placed =
          placed_left c.self.inside.marks.items c.args.slot _ c.index-moved.result.now.hash c.index-place.result.now c.swap_remove-place.result c.swap_remove-gone.result c.index-moved.result.now c.self.inside.places.items c.unlist.new.places.items
          c.swap_remove-place.new.self.items c.self.inside.slots c.unlist.new.slots c.rename.new.slots within (omega arith) (ap (λ (m : Mark). m.hash) c.index-moved.ensures) c.index-place.ensures c.unlist.ensures.sizes c.swap_remove-place.ensures.items
          c.self.invariant.placed c.unlist.ensures.placed c.rename.ensures.placed c.rename.ensures.there;
    })

pub returns-clause-marks : goal.returns-clause-marks
returns-clause-marks c =
    let within : c.args.slot < length c.self.inside.marks.items = omega (arith, c.requires, ap (λ (i : Indexed). length i.marks) c.self.view_is) in
    λ mark.
    c.swap_remove-gone.ensures.items
    ∙ swap_same c.self.inside.marks.items c.args.slot c.swap_remove-gone.result mark within
    ∙ ap (λ (i : Indexed). swap_remove i.marks c.args.slot mark) c.self.view_is

pub returns-clause-spare : goal.returns-clause-spare
returns-clause-spare c =
    omega (
      arith,
      ap (λ (i : Indexed). i.spare) c.self.view_is,
      c.swap_remove-gone.ensures.len,
      c.swap_remove-gone.ensures.capacity,
      c.swap_remove-place.ensures.len,
      c.swap_remove-place.ensures.capacity,
      c.unlist.ensures.sizes,
      c.unlist.ensures.capacity,
      c.unlist.new.places.ok.0,
      c.self.inside.places.ok.0,
    )

pub returns-clause-room : goal.returns-clause-room
returns-clause-room c = λ hash. omega (arith, ap (λ (i : Indexed). room_at i.lists hash) c.self.view_is, c.unlist.ensures.room hash, c.rename.ensures.room hash)
