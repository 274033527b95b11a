use Rattle.std.proofs.Common.{ℕ, ◌<◌, List, [], ◌∷◌, length, ap, subst, sym, ◌∙◌}
use Rattle.std.proofs.lemmas.List.{get_or_default}
use Rattle.std.proofs.lemmas.List.Elements.{All-nil}
use Rattle.policy_table.specs.Helps.Orders.{AreBelow, in_order}
use Rattle.policy_table.proofs.SlotLemmas.{first_row}
use Rattle.policy_table.proofs.rows.RowsIterator.next.Goals as goal

pub bounds-self-inside-id : goal.bounds-self-inside-id
bounds-self-inside-id c = (first_row c.self.inside.by_slot.now c.in-Some.id c.next.new.self c.self.inside.ids c.in-Some.ensures.steps c.self.invariant).0

pub invariant_of-self : goal.invariant_of-self
invariant_of-self c =
    let bound = length c.self.inside.by_slot.now in
    subst (λ (l : List ℕ). AreBelow bound l) (sym c.in_default.ensures.steps.1) (All-nil (λ (id : ℕ). id < bound))

pub invariant_of-self-2 : goal.invariant_of-self-2
invariant_of-self-2 c = (first_row c.self.inside.by_slot.now c.in-Some.id c.next.new.self c.self.inside.ids c.in-Some.ensures.steps c.self.invariant).1

pub returns-clause-steps : goal.returns-clause-steps
returns-clause-steps c =
    let first = first_row c.self.inside.by_slot.now c.in-Some.id c.next.new.self c.self.inside.ids c.in-Some.ensures.steps c.self.invariant in
    sym c.self.view_is ∙ first.2
    ∙ ap (λ row. row ∷ in_order c.self.inside.by_slot.now c.next.new.self) (get_or_default c.self.inside.by_slot.now c.in-Some.id [] c.index-self-id.result first.0)

pub returns-in_default-clause-steps : goal.returns-in_default-clause-steps
returns-in_default-clause-steps c = (sym c.self.view_is ∙ ap (in_order c.self.inside.by_slot.now) c.in_default.ensures.steps.0, ap (in_order c.self.inside.by_slot.now) c.in_default.ensures.steps.1)
