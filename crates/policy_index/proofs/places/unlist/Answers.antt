use Rattle.std.proofs.Common.{◌≡◌, ◌-◌, ℕ, arith, get_or, length, refl, subst, sym}
use Rattle.std.proofs.lemmas.List.{get_or_read}
use Rattle.std.proofs.lemmas.Option.{slice_get_within}
use Rattle.policy_index.specs.Helps.Kept.{IsAt}
use Rattle.policy_index.specs.Lists.{slots_at}
use Rattle.policy_index.proofs.PlaceLemmas.{last_there, took_counts, took_places, took_shorter}
use Rattle.policy_index.proofs.places.unlist.Goals as goal

pub take-moved-requires : goal.take-moved-requires
take-moved-requires c =
    let place_is : c.index-place.result.now ≡ get_or c.args.places.now.items c.args.slot 0 = get_or_read c.args.places.now.items c.args.slot _ c.requires.within c.index-place.ensures 0 in
    slice_get_within (slots_at c.args.slots.now c.args.hash) c.index-place.result.now c.args.slot (subst (λ (p : ℕ). IsAt c.args.slots.now c.args.hash p c.args.slot) (sym place_is) c.requires.there)

pub index_mut-requires : goal.index_mut-requires
index_mut-requires c =
    let place_is : c.index-place.result.now ≡ get_or c.args.places.now.items c.args.slot 0 = get_or_read c.args.places.now.items c.args.slot _ c.requires.within c.index-place.ensures 0 in
    let there = subst (λ (p : ℕ). IsAt c.args.slots.now c.args.hash p c.args.slot) (sym place_is) c.requires.there in
    let below = c.requires.below (length (slots_at c.args.slots.now c.args.hash) - 1) c.take-moved.result
    (last_there c.args.slots.now c.take-moved.new.self c.args.hash c.index-place.result.now c.args.slot there c.take-moved.ensures.slots c.take-moved.result c.take-moved.ensures.last) in
    omega (arith, below, c.args.places.now.ok.0)

pub returns-clause-slots : goal.returns-clause-slots
returns-clause-slots c =
    let place_is : c.index-place.result.now ≡ get_or c.args.places.now.items c.args.slot 0 = get_or_read c.args.places.now.items c.args.slot _ c.requires.within c.index-place.ensures 0 in
    took_counts c.args.slots.now c.take-moved.new.self c.args.hash c.index-place.result.now c.args.slot (subst (λ (p : ℕ). IsAt c.args.slots.now c.args.hash p c.args.slot) (sym place_is) c.requires.there) c.take-moved.ensures.slots

pub returns-clause-shorter : goal.returns-clause-shorter
returns-clause-shorter c =
    let place_is : c.index-place.result.now ≡ get_or c.args.places.now.items c.args.slot 0 = get_or_read c.args.places.now.items c.args.slot _ c.requires.within c.index-place.ensures 0 in
    took_shorter c.args.slots.now c.take-moved.new.self c.args.hash c.index-place.result.now c.args.slot (subst (λ (p : ℕ). IsAt c.args.slots.now c.args.hash p c.args.slot) (sym place_is) c.requires.there) c.take-moved.ensures.slots

pub returns-clause-placed : goal.returns-clause-placed
returns-clause-placed c =
    let place_is : c.index-place.result.now ≡ get_or c.args.places.now.items c.args.slot 0 = get_or_read c.args.places.now.items c.args.slot _ c.requires.within c.index-place.ensures 0 in
    let there = subst (λ (p : ℕ). IsAt c.args.slots.now c.args.hash p c.args.slot) (sym place_is) c.requires.there in
    let below = c.requires.below (length (slots_at c.args.slots.now c.args.hash) - 1) c.take-moved.result
    (last_there c.args.slots.now c.take-moved.new.self c.args.hash c.index-place.result.now c.args.slot there c.take-moved.ensures.slots c.take-moved.result c.take-moved.ensures.last) in
    took_places c.args.slots.now c.take-moved.new.self c.args.hash c.index-place.result.now c.args.slot there c.take-moved.ensures.slots c.take-moved.result c.args.places.now.items _ c.take-moved.ensures.last refl below c.requires.own
