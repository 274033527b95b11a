use Rattle.std.proofs.Common.{◌≡◌, [], ◌∷◌, List, arith, rules, subst, ◌∙◌}
use Rattle.std.proofs.lemmas.List.{nil_from_length}
use Rattle.policy_state.specs.Helps.Kept.{key_of}
use Rattle.policy_state.specs.Ready.{CanIndex}
use Rattle.policy_state.proofs.IndexStepLemmas.{makes_begin, makes_end, makes_more}
use Rattle.policy_table.specs.Changes.{edited}
use Rattle.policy_table.specs.Held.{IsPreparedFor}
use Rattle.policy_table.specs.declared.change.Change.{Change}
use Rattle.policy_state.proofs.indexes.make_all.Goals as goal

pub loop-step-init : goal.loop-step-init
loop-step-init c =
    makes_begin c.args.tables.now c.args.index.now c.args.prepared c.into_iter-step-iterator.result.rest.items (c.into_iter-step-iterator.ensures.into_iter_gives.0 ∙ c.into_steps-step-items.ensures) c.requires.tables c.requires.index c.requires.ready

pub make_one-requires-clause-tables : goal.make_one-requires-clause-tables
make_one-requires-clause-tables c =
    let rest : c.loop-step.step-iterator.rest.items ≡ c.in-Some.step ∷ c.next.new.self.rest.items = search rules in
    (c.next.new.self.rest.items, subst (λ (l : List Change). IsPreparedFor c.loop-step.tables l) rest c.loop-step.invariant.tables)

pub make_one-requires-clause-index : goal.make_one-requires-clause-index
make_one-requires-clause-index c = c.loop-step.invariant.rows

pub make_one-requires-clause-ready : goal.make_one-requires-clause-ready
make_one-requires-clause-ready c =
    let rest : c.loop-step.step-iterator.rest.items ≡ c.in-Some.step ∷ c.next.new.self.rest.items = search rules in
    (c.next.new.self.rest.items, subst (λ (l : List Change). CanIndex l c.loop-step.index) rest c.loop-step.invariant.ready)

pub loop-step-preserved : goal.loop-step-preserved
loop-step-preserved c =
    let rest : c.loop-step.step-iterator.rest.items ≡ c.in-Some.step ∷ c.next.new.self.rest.items = search rules in
    makes_more (edited c.args.prepared c.args.tables.now.policy) (key_of c.args.index.now) c.in-Some.step c.next.new.self.rest.items c.loop-step.step-iterator.rest.items c.loop-step.tables c.make_one.new.tables c.loop-step.index c.make_one.new.index rest
    c.loop-step.invariant c.make_one.ensures.policy c.make_one.ensures.tables c.make_one.ensures.key c.make_one.ensures.index c.make_one.ensures.ready

pub returns-clause-policy : goal.returns-clause-policy
returns-clause-policy c =
    let rest : c.loop-step.step-iterator.rest.items ≡ [] = nil_from_length c.loop-step.step-iterator.rest.items (search (rules, arith)) in
    makes_end (edited c.args.prepared c.args.tables.now.policy) (key_of c.args.index.now) c.loop-step.step-iterator.rest.items c.loop-step.tables c.loop-step.index rest c.loop-step.invariant

pub returns-clause-key : goal.returns-clause-key
returns-clause-key c = c.forget_emptied.ensures.key ∙ c.loop-step.invariant.key_is

pub returns-clause-index : goal.returns-clause-index
returns-clause-index c = c.forget_emptied.ensures.stays _ c.loop-step.invariant.rows
