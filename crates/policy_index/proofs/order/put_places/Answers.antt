use Rattle.std.proofs.Common.{◌∙◌, ◌<◌, ℕ, arith, length, refl, sym, subst}
use Rattle.std.proofs.lemmas.List.{length-set}
use Rattle.policy_table.specs.Slots.{slots}
use Rattle.policy_table.specs.Tables.{rows}
use Rattle.policy_index.specs.Helps.FoundSlots.{IsPlaceOf}
use Rattle.policy_index.proofs.OrderLemmas.{placed_all, placed_more, slot_below}
use Rattle.policy_index.proofs.order.put_places.Goals as goal

pub loop-at-init : goal.loop-at-init
loop-at-init c = record { done = tt; left = refl; size = refl }

pub place_of_slot-requires : goal.place_of_slot-requires
place_of_slot-requires c =
    let within : c.loop-at.at < length c.loop-at.found.items = omega (arith, c.loop-at-test.true, c.loop-at.invariant.size) in
    subst (λ (n : ℕ). n < length (slots c.args.tables.now c.args.table)) (sym c.index.ensures)
    (slot_below (slots c.args.tables.now c.args.table) c.args.found.now.items c.loop-at.found.items c.loop-at.at c.index.result.now c.requires within c.loop-at.invariant.left)

pub loop-at-preserved : goal.loop-at-preserved
loop-at-preserved c =
    let within : c.loop-at.at < length c.loop-at.found.items = omega (arith, c.loop-at-test.true, c.loop-at.invariant.size) in
    let place : IsPlaceOf (slots c.args.tables.now c.args.table) (rows c.args.tables.now.policy c.args.table) c.index.result.now c.place_of_slot.result = record { within = c.place_of_slot.ensures.within; same = c.place_of_slot.ensures.same } in
    let more =
    placed_more (slots c.args.tables.now c.args.table) (rows c.args.tables.now.policy c.args.table) c.args.found.now.items c.loop-at.found.items c.loop-at.at c.place_of_slot.result c.index.result.now within
    (subst (λ (n : ℕ). IsPlaceOf (slots c.args.tables.now c.args.table) (rows c.args.tables.now.policy c.args.table) n c.place_of_slot.result) c.index.ensures place) c.loop-at.invariant.done c.loop-at.invariant.left in
    record { done = more.0; left = more.1; size = length-set c.loop-at.found.items c.loop-at.at c.place_of_slot.result ∙ c.loop-at.invariant.size }

pub returns : goal.returns
returns c =
    placed_all (slots c.args.tables.now c.args.table) (rows c.args.tables.now.policy c.args.table) c.args.found.now.items c.loop-at.found.items c.loop-at.at (omega (arith, c.loop-at-test.false, c.loop-at.invariant.size)) c.loop-at.invariant.left
    c.loop-at.invariant.done
