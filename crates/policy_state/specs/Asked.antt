-- Role relations as they are asked.
use Rattle.std.specs.Prelude.{◌≡◌, ℕ, List, Option, Some, is_some}
use Rattle.perm_base.specs.RoleShapes.{shape_of}
use Rattle.perm_base.specs.declared.shapes.RoleShape.{RoleShape}
use Rattle.perm_base.specs.declared.shapes.Shapes.{Shapes}

-- the shapes have the relation, and a domain is named where its rules have one, and nowhere else
pub record IsAskedOf (shapes : Shapes) (relation : ℕ) (domain : Option (List ℕ)) : Type 0 where
  pub shape : RoleShape
  pub there : shape_of shapes.roles relation ≡ Some shape
  pub asked : is_some domain ≡ shape.with_domain
