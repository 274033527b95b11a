-- The relation of a number among those of shapes.
use Rattle.std.proofs.Common.{◌≡◌, ℕ, Bool, true, false, cond, eqb, List, [], ◌∷◌, Some, refl, sym, subst}
use Rattle.std.proofs.lemmas.Bool.{eqb-true}
use Rattle.perm_base.specs.RoleShapes.{shape_of}
use Rattle.perm_base.specs.declared.shapes.RoleShape.{RoleShape}

-- the relation that is found has the number
pub found_number : (roles : List RoleShape) (number : ℕ) (shape : RoleShape) → shape_of roles number ≡ Some shape → shape.number ≡ number
found_number [] number shape found = absurd cc
found_number (role ∷ roles) number shape found = by (eqb role.number number) refl found (found_number roles number shape)
  where
    by : (test : Bool) → eqb role.number number ≡ test → cond test (Some role) (shape_of roles number) ≡ Some shape → (shape_of roles number ≡ Some shape → shape.number ≡ number) → shape.number ≡ number
    by true e is rest =
        let own : shape ≡ role = cc in
        subst (λ (r : RoleShape). r.number ≡ number) (sym own) (eqb-true role.number number e)
    by false e is rest = rest is
