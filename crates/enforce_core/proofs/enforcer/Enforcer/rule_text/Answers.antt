use Rattle.std.proofs.Common.{ap, ◌∙◌}
use Rattle.std.proofs.lemmas.Result.{IfOk-weaker}
use Rattle.policy_state.specs.States.{State, tables}
use Rattle.policy_table.specs.Tables.{Policy}
use Rattle.enforce_core.specs.Places.{state_at}
use Rattle.enforce_core.specs.Seen.{Enforcing}
use Rattle.enforce_core.specs.Shown.{rule_text}
use Rattle.enforce_core.proofs.enforcer.Enforcer.rule_text.Goals as goal

pub returns : goal.returns
returns c =
    IfOk-weaker c.text_of_rule.result _ _ (λ text is. is ∙ ap (λ (policy : Policy). rule_text policy c.args.row) (c.tables.ensures.policy ∙ ap (λ (s : State). tables s) c.state.ensures ∙ ap (λ (e : Enforcing). tables (state_at e.place)) c.self.view_is)) c.text_of_rule.ensures
