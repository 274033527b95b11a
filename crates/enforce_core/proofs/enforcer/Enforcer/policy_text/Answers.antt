use Rattle.std.proofs.Common.{ap, ◌∙◌}
use Rattle.std.proofs.lemmas.Result.{IfOk-weaker}
use Rattle.policy_csv.specs.Printed.{printed}
use Rattle.policy_state.specs.States.{State, tables}
use Rattle.enforce_core.specs.Places.{state_at}
use Rattle.enforce_core.specs.Seen.{Enforcing}
use Rattle.enforce_core.proofs.enforcer.Enforcer.policy_text.Goals as goal

pub returns : goal.returns
returns c =
    IfOk-weaker c.print_policy.result _ _ (λ text is. is ∙ ap printed (c.tables.ensures.policy ∙ ap (λ (s : State). tables s) c.state.ensures ∙ ap (λ (e : Enforcing). tables (state_at e.place)) c.self.view_is)) c.print_policy.ensures.printed
