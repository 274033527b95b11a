-- The role relations of a policy, each by its shape.
use Rattle.std.specs.Prelude.{ℕ, ◌<◌, ◌≤◌, ◌==◌, List, All, map, find, Option}
use Rattle.std.specs.List.Sorted.{IsStrictlyIncreasing}
use Rattle.perm_base.specs.declared.shapes.RoleShape.{RoleShape}

-- a relation numbered 1 to 8
pub record IsNumbered (shape : RoleShape) : Type 0 where
  pub some : 0 < shape.number
  pub few : shape.number ≤ 8

-- relations numbered 1 to 8, by rising number without repeats
pub record AreRoles (shapes : List RoleShape) : Type 0 where
  pub each : All IsNumbered shapes
  pub rising : IsStrictlyIncreasing (map (λ (shape : RoleShape). shape.number) shapes)

-- the shape of that number, if one has it
abbrev pub shape_of : List RoleShape → ℕ → Option RoleShape
shape_of shapes number = find (λ (shape : RoleShape). shape.number == number) shapes
