use Rattle.std.proofs.Common.{subst}
use Rattle.std.specs.Prelude.{IfOk}
use Rattle.model_conf.specs.ModelText.{ModelParts}
use Rattle.near_miss.specs.Parts.{AreParts}
use Rattle.loaded_work.proofs.guide.explainer_of.Goals as goal

pub returns : goal.returns
returns c = subst (λ (model : ModelParts). IfOk c.make_explainer.result (AreParts model)) c.model.ensures c.make_explainer.ensures
