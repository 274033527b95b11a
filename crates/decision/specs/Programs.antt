-- Policies that suit a model.
use Rattle.std.specs.Prelude.{◌≡◌, ◌<◌, ◌≤◌, ℕ, List, None}
use Rattle.perm_base.specs.declared.shapes.Fit.{Fit}
use Rattle.perm_base.specs.declared.shapes.Shapes.{Shapes}
use Rattle.model_conf.specs.ModelText.{ModelParts}
use Rattle.model_conf.specs.Shapes.{AreNamedOnce, first_absent, shapes_of}

-- the shapes are those of the model, with some functions that its relations and their domains have, and some hierarchy limit
pub record Suits (model : ModelParts) (shapes : Shapes) : Type 0 where
  pub names : List (ℕ × Fit)
  pub domains : List (ℕ × Fit)
  pub limit : ℕ
  pub names_once : AreNamedOnce names
  pub domains_once : AreNamedOnce domains
  pub present : first_absent model.relations names domains ≡ None
  pub some : 0 < limit
  pub most : limit ≤ 250
  pub shapes_are : shapes ≡ shapes_of model names domains limit
