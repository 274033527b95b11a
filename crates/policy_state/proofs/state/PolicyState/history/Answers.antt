use Rattle.policy_state.proofs.NamedLemmas.{found_named, named_grown}
use Rattle.policy_state.proofs.state.PolicyState.history.Goals as goal

pub returns-clause-names : goal.returns-clause-names
returns-clause-names c =
    found_named (λ edit. edit.now) c.self.inside.log c.args.number c.edit_of.result _
    (named_grown c.self.inside.shapes c.self.inside.tables.policy c.self.inside.log.tail c.self.invariant.valid c.self.invariant.grown) c.edit_of.ensures.answer
