use Rattle.std.proofs.Common.{subst, sym, ◌∙◌}
use Rattle.std.proofs.lemmas.Result.{IfOk-weaker}
use Rattle.decision.specs.Programs.{Suits}
use Rattle.model_conf.specs.ModelText.{ModelParts}
use Rattle.enforce_core.specs.Places.{at_desk}
use Rattle.enforce_core.specs.Seen.{none_refused}
use Rattle.enforce_core.proofs.enforcer.Enforcer.owning.Goals as goal

pub over-requires : goal.over-requires
over-requires c = subst (λ (m : ModelParts). Suits m c.args.desk.state.shapes) (sym c.in_ok-program.ensures.ok) c.requires

pub returns : goal.returns
returns c = IfOk-weaker c.over.result _ _ (λ made is. is ∙ (λ j. record { model = c.in_ok-program.ensures.ok j; place = at_desk c.args.desk; refusals = none_refused })) c.over.ensures
