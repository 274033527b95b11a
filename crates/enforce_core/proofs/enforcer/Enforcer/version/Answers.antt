use Rattle.std.proofs.Common.{ap, ◌∙◌}
use Rattle.policy_state.specs.States.{State}
use Rattle.version_log.specs.Log.{versions}
use Rattle.enforce_core.specs.Places.{state_at}
use Rattle.enforce_core.specs.Seen.{Enforcing}
use Rattle.enforce_core.proofs.enforcer.Enforcer.version.Goals as goal

pub returns : goal.returns
returns c = c.version.ensures.value ∙ ap (λ (s : State). versions s.log) c.state.ensures ∙ ap (λ (e : Enforcing). versions (state_at e.place).log) c.self.view_is
