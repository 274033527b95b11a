-- The shapes of a model's policies, without options.
use Rattle.std.proofs.Common.{◌≡◌, [], arith, refl}
use Rattle.decision.specs.Programs.{Suits}
use Rattle.model_conf.specs.ModelText.{ModelParts}
use Rattle.model_conf.specs.Shapes.{first_absent, shapes_of}
use Rattle.perm_base.specs.declared.shapes.Shapes.{Shapes}

-- the shapes of a model without options suit it
pub suits_plain : (model : ModelParts) (shapes : Shapes) → shapes ≡ shapes_of model [] [] 10 → Suits model shapes
unfolding first_absent
suits_plain model shapes is = record {
  names = [];
  domains = [];
  limit = 10;
  names_once = λ i j d above within same. omega (arith, within);
  domains_once = λ i j d above within same. omega (arith, within);
  present = refl;
  some = omega arith;
  most = omega arith;
  shapes_are = is;
}
