use Rattle.std.proofs.Common.{All, subst}
use Rattle.policy_state.proofs.NamedLemmas.{named_grown}
use Rattle.policy_state.specs.States.{State}
use Rattle.version_log.specs.EditText.{NameRules}
use Rattle.policy_state.proofs.state.PolicyState.kept.Goals as goal

pub returns-clause-names : goal.returns-clause-names
returns-clause-names c =
    subst (λ (s : State). All NameRules s.log.tail) c.self.view_is
    (named_grown c.self.inside.shapes c.self.inside.tables.policy c.self.inside.log.tail c.self.invariant.valid c.self.invariant.grown)
