use Rattle.std.proofs.Common.{[], ap, subst, sym, ◌∙◌}
use Rattle.decision.specs.Programs.{Suits}
use Rattle.demo_run.specs.DemoTexts.{model_text}
use Rattle.model_conf.specs.ModelText.{IsModel, ModelParts}
use Rattle.model_conf.specs.Shapes.{shapes_of}
use Rattle.demo_run.proofs.demo.demo_program.Goals as goal

pub returns-clause-model : goal.returns-clause-model
returns-clause-model c = subst (IsModel model_text) (sym c.in_ok-program.ensures) c.in_ok-model.ensures

pub returns-clause-shapes : goal.returns-clause-shapes
returns-clause-shapes c = c.in_ok-shapes.ensures.value ∙ ap (λ (model : ModelParts). shapes_of model [] [] 10) (sym c.in_ok-program.ensures)

pub returns-clause-suits : goal.returns-clause-suits
returns-clause-suits c = subst (λ (model : ModelParts). Suits model c.in_ok-shapes.shapes) (sym c.in_ok-program.ensures) c.in_ok-shapes.ensures.suits
