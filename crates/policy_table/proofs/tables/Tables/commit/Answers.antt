use Rattle.std.proofs.Common.{rules, arith, ◌≡◌, [], ◌∷◌, List, ◌∙◌, subst}
use Rattle.policy_table.specs.Changes.{edited}
use Rattle.policy_table.specs.Held.{IsPreparedFor}
use Rattle.policy_table.specs.Slots.{slots_edited}
use Rattle.policy_table.specs.declared.change.Change.{Change}
use Rattle.policy_table.proofs.CommitLemmas.{begins, empty_of, leads_on, led}
use Rattle.policy_table.proofs.tables.Tables.commit.Goals as goal

pub loop-step-init : goal.loop-step-init
loop-step-init c =
    begins c.args.self.now c.args.prepared c.into_iter-step-iterator.result.rest.items (c.into_iter-step-iterator.ensures.into_iter_gives.0 ∙ c.into_steps-step-items.ensures) c.requires

pub make-requires : goal.make-requires
make-requires c =
    let rest : c.loop-step.step-iterator.rest.items ≡ c.in-Some.step ∷ c.next.new.self.rest.items = search rules in
    (c.next.new.self.rest.items, subst (λ (changes : List Change). IsPreparedFor c.loop-step.self changes) rest c.loop-step.invariant.ready)

pub loop-step-preserved : goal.loop-step-preserved
loop-step-preserved c =
    let policy = edited c.args.prepared c.args.self.now.policy in
    let slots = slots_edited c.args.prepared c.args.self.now.slots in
    let rest : c.loop-step.step-iterator.rest.items ≡ c.in-Some.step ∷ c.next.new.self.rest.items = search rules in
    leads_on policy slots c.in-Some.step c.next.new.self.rest.items c.loop-step.step-iterator.rest.items c.loop-step.self c.make.new.self c.loop-step.invariant rest
    c.make.ensures.policy c.make.ensures.slots c.make.ensures.ready

pub returns-clause-policy : goal.returns-clause-policy
returns-clause-policy c =
    let rest : c.loop-step.step-iterator.rest.items ≡ [] = empty_of c.loop-step.step-iterator.rest.items (search (rules, arith)) in
    (led (edited c.args.prepared c.args.self.now.policy) (slots_edited c.args.prepared c.args.self.now.slots) c.loop-step.step-iterator.rest.items c.loop-step.self c.loop-step.invariant rest).0

pub returns-clause-slots : goal.returns-clause-slots
returns-clause-slots c =
    let rest : c.loop-step.step-iterator.rest.items ≡ [] = empty_of c.loop-step.step-iterator.rest.items (search (rules, arith)) in
    (led (edited c.args.prepared c.args.self.now.policy) (slots_edited c.args.prepared c.args.self.now.slots) c.loop-step.step-iterator.rest.items c.loop-step.self c.loop-step.invariant rest).1
