-- What a section keeps, whatever its rows.
use Rattle.std.specs.Prelude.{◌≤◌, ℕ, List, All, IsSome, length}
use Rattle.perm_base.specs.declared.shapes.RoleShape.{RoleShape}
use Rattle.perm_base.specs.declared.shapes.TableId.TheVariants.{G}
use Rattle.policy_table.specs.Tables.{Fields, place}

-- a relation that has a place, with a limit of its range; and few rows with a pattern as their domain, each with a user and a role
pub record IsKept (shape : RoleShape) (limit : ℕ) (patterns : List Fields) : Type 0 where
  pub placed : IsSome (place (G shape.number))
  pub some : 1 ≤ limit
  pub most : limit ≤ 250
  pub columns : All (λ (row : Fields). 2 ≤ length row) patterns
  pub few : length patterns ≤ 64
