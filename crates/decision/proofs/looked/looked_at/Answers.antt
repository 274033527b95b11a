use Rattle.std.proofs.Common.{◌≡◌, ◌∙◌, ◌<◌, ℕ, All, List, Option, ap, length, sym, subst, true}
use Rattle.std.specs.Borrow.{Bor}
use Rattle.std.specs.Prelude.{IfSome, option_copied}
use Rattle.perm_base.specs.declared.shapes.TableId.TheVariants.{P}
use Rattle.policy_index.specs.Found.{ArePlacesOf}
use Rattle.policy_index.specs.Indexed.{Indexed}
use Rattle.policy_state.specs.Helps.Kept.{AreIndexed}
use Rattle.policy_table.specs.Held.{Held}
use Rattle.policy_table.specs.Slots.{slots}
use Rattle.policy_table.specs.Tables.{rows}
use Rattle.decision.specs.Helps.Asked.{ServesFor, case_in, rows_of}
use Rattle.decision.specs.Helps.FoundRows.{AreGathered}
use Rattle.decision.specs.Helps.LeftOut.{AreAllThatMatter}
use Rattle.decision.specs.declared.found_rows.Gathered.{Gathered}
use Rattle.decision.specs.declared.found_rows.Gathered.TheVariants as gathered
use Rattle.decision.specs.declared.plan.KeptPlan.{KeptPlan}
use Rattle.decision.proofs.LookedLemmas.{nothing_left, slots_matter, slots_within}
use Rattle.decision.proofs.looked.looked_at.Goals as goal
use Rattle.decision.proofs.looked.looked_at.Goals.{In-Ok-Slots}

-- the slots that were found
slots_found : (c : In-Ok-Slots) → AreGathered c.args.asking.now c.in-Some.plan.now c.in-Some-index.index.now c.gather.new.found.items gathered.Slots
slots_found c = subst (λ (g : Gathered). AreGathered c.args.asking.now c.in-Some.plan.now c.in-Some-index.index.now c.gather.new.found.items g) c.in-Ok-Slots.field-0-is c.in-Ok-Slots.ensures

-- the key of the index is that of the plan
pub gather-requires-clause-key : goal.gather-requires-clause-key
gather-requires-clause-key c = sym c.key.ensures ∙ c.is_key.ensures c.if-not-is_key.false

-- the slots are those of rows of p
pub put_in_order-requires : goal.put_in_order-requires
put_in_order-requires c =
    let asked = c.args.asking.now in
    let is : ServesFor asked c.in-Some.plan.now = subst (λ (o : Option (Bor KeptPlan)). IfSome o (λ plan. ServesFor asked plan.now)) c.in-Some.is c.requires.serves in
    subst (λ (h : Held). All (λ (slot : ℕ). slot < length (slots h P)) c.gather.new.found.items) (sym c.tables.ensures.held)
    (slots_within asked.model.now asked.state.now asked.request.now c.in-Some.plan.now is.kept is.able c.case_answer_is_there.ensures.truth c.in-Some-index.index.now (slots asked.state.now.parts.held P) c.gather.new.found.items
    (subst (λ (i : Option Indexed). AreIndexed i (slots asked.state.now.parts.held P)) (ap option_copied c.in-Some-index.is) c.index.ensures.rows) (slots_found (goal.at.put_in_order-requires c).In-Ok-Slots))

pub returns-in-Ok-Slots : goal.returns-in-Ok-Slots
returns-in-Ok-Slots c =
    let asked = c.args.asking.now in
    let is : ServesFor asked c.in-Some.plan.now = subst (λ (o : Option (Bor KeptPlan)). IfSome o (λ plan. ServesFor asked plan.now)) c.in-Some.is c.requires.serves in
    subst (λ (places : List ℕ). AreAllThatMatter (case_in asked) (rows_of asked) places) (sym c.as_slice.ensures.value)
    (slots_matter asked.model.now asked.state.now asked.request.now c.in-Some.plan.now is.kept is.able c.case_answer_is_there.ensures.truth c.in-Some-index.index.now (slots asked.state.now.parts.held P) (rows_of asked) c.gather.new.found.items c.put_in_order.new.found.items
    (sym c.key.ensures ∙ c.is_key.ensures c.if-not-is_key.false) (subst (λ (i : Option Indexed). AreIndexed i (slots asked.state.now.parts.held P)) (ap option_copied c.in-Some-index.is) c.index.ensures.rows)
    c.index.ensures.slots (subst (λ (h : Held). ArePlacesOf (slots h P) (rows h.policy P) c.gather.new.found.items c.put_in_order.new.found.items) c.tables.ensures.held c.put_in_order.ensures) (c.kept.ensures.sound.shaped.columns P) (slots_found (goal.at.returns-in-Ok-Slots c).In-Ok-Slots))

pub returns-in-Ok-Nothing : goal.returns-in-Ok-Nothing
returns-in-Ok-Nothing c =
    let asked = c.args.asking.now in
    let is : ServesFor asked c.in-Some.plan.now = subst (λ (o : Option (Bor KeptPlan)). IfSome o (λ plan. ServesFor asked plan.now)) c.in-Some.is c.requires.serves in
    nothing_left asked.model.now asked.state.now asked.request.now c.in-Some.plan.now is.kept is.able c.case_answer_is_there.ensures.truth c.in-Some-index.index.now c.gather.new.found.items (subst (λ (g : Gathered). AreGathered asked c.in-Some.plan.now c.in-Some-index.index.now c.gather.new.found.items g) c.in-Ok-Nothing.field-0-is c.in-Ok-Nothing.ensures) (rows_of asked)
