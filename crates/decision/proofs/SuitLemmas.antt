-- What suits a model.
use Rattle.std.proofs.Common.{◌≡◌, length, ap}
use Rattle.perm_base.specs.declared.shapes.Shapes.{Shapes}
use Rattle.model_conf.specs.ModelText.{ModelParts}
use Rattle.model_conf.specs.Shapes.{shapes_of}
use Rattle.decision.specs.Programs.{Suits}

-- shapes that suit have the columns of the model
pub suits_columns : (model : ModelParts) (shapes : Shapes) → Suits model shapes → shapes.columns ≡ length model.policy
unfolding shapes_of
suits_columns model shapes so = ap (λ (s : Shapes). s.columns) so.shapes_are
