-- The shapes of a policy's tables.
use Rattle.std.specs.Prelude.{ℕ, ◌<◌, ◌≤◌, IfSome}
use Rattle.perm_base.specs.RoleShapes.{AreRoles}
use Rattle.perm_base.specs.declared.shapes.Shapes.{Shapes}

-- 1 to 32 columns, the special ones below their number; relations numbered 1 to 8 rising; a limit of 1 to 250
pub record AreValid (shapes : Shapes) : Type 0 where
  pub some : 0 < shapes.columns
  pub few : shapes.columns ≤ 32
  pub subject : shapes.subject_column < shapes.columns
  pub effect : IfSome shapes.effect_column (λ (column : ℕ). column < shapes.columns)
  pub roles : AreRoles shapes.roles
  pub limited : 0 < shapes.limit
  pub at_most : shapes.limit ≤ 250
