-- A worked case: a relation without domains, in which one name has another as its role.
use Rattle.std.specs.Prelude.{ℕ, List, [], ◌∷◌, None, false}
use Rattle.perm_base.specs.declared.shapes.Fit.TheVariants.{Exact}
use Rattle.perm_base.specs.declared.shapes.RoleShape.{RoleShape}
use Rattle.perm_base.specs.declared.shapes.Shapes.{Shapes}
use Rattle.policy_table.specs.Tables.{Policy}

-- the relation g without domains, its names compared as they are
abbrev pub plain_g : RoleShape
plain_g = record { number = 1; with_domain = false; names = Exact; domains = Exact }

-- rules of one column, the subject, and that relation
abbrev pub subject_shapes : Shapes
subject_shapes = record { columns = 1; effect_column = None; subject_column = 0; roles = plain_g ∷ []; limit = 10; ranked = false }

-- tables in which the one name has the other as its role, and nothing else stands
abbrev pub with_role : List ℕ → List ℕ → Policy
with_role user role = record { lists = [] ∷ ((user ∷ role ∷ []) ∷ []) ∷ []; ranked = false }
