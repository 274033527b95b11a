use Rattle.std.proofs.Common.{◌≡◌, [], ◌∷◌, List, arith, rules, subst, ◌∙◌}
use Rattle.std.proofs.lemmas.List.{nil_from_length}
use Rattle.policy_desk.proofs.DraftLemmas.{makes_begin, makes_end, makes_more}
use Rattle.policy_table.specs.Changes.{edited}
use Rattle.policy_table.specs.Held.{IsPreparedFor}
use Rattle.policy_table.specs.declared.change.Change.{Change}
use Rattle.policy_desk.proofs.drafts.make_all.Goals as goal

pub loop-step-init : goal.loop-step-init
loop-step-init c =
    makes_begin c.args.tables.now c.args.finders.now c.args.prepared c.into_iter-step-iterator.result.rest.items (c.into_iter-step-iterator.ensures.into_iter_gives.0 ∙ c.into_steps-step-items.ensures) c.requires.tables c.requires.finders

pub make_one-requires-clause-tables : goal.make_one-requires-clause-tables
make_one-requires-clause-tables c =
    let rest : c.loop-step.step-iterator.rest.items ≡ c.in-Some.step ∷ c.next.new.self.rest.items = search rules in
    (c.next.new.self.rest.items, subst (λ (l : List Change). IsPreparedFor c.loop-step.tables l) rest c.loop-step.invariant.tables)

pub make_one-requires-clause-finders : goal.make_one-requires-clause-finders
make_one-requires-clause-finders c = c.loop-step.invariant.finds

pub loop-step-preserved : goal.loop-step-preserved
loop-step-preserved c =
    let rest : c.loop-step.step-iterator.rest.items ≡ c.in-Some.step ∷ c.next.new.self.rest.items = search rules in
    makes_more (edited c.args.prepared c.args.tables.now.policy) c.in-Some.step c.next.new.self.rest.items c.loop-step.step-iterator.rest.items c.loop-step.tables c.make_one.new.tables c.loop-step.finders c.make_one.new.finders rest
    c.loop-step.invariant c.make_one.ensures.policy c.make_one.ensures.tables c.make_one.ensures.finders

pub returns-clause-policy : goal.returns-clause-policy
returns-clause-policy c =
    let rest : c.loop-step.step-iterator.rest.items ≡ [] = nil_from_length c.loop-step.step-iterator.rest.items (search (rules, arith)) in
    makes_end (edited c.args.prepared c.args.tables.now.policy) c.loop-step.step-iterator.rest.items c.loop-step.tables c.loop-step.finders rest c.loop-step.invariant

pub returns-clause-finders : goal.returns-clause-finders
returns-clause-finders c = c.loop-step.invariant.finds
