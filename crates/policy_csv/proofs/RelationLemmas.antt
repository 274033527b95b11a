-- The relation of a number among those of shapes.
use Rattle.std.proofs.Common.{◌≡◌, ℕ, Bool, true, false, cond, eqb, List, [], ◌∷◌, Some, refl, sym, subst, arith}
use Rattle.std.specs.Prelude.{is_some}
use Rattle.std.specs.List.{AllByRecursion}
use Rattle.std.proofs.lemmas.Bool.{eqb-true, lt-ltb}
use Rattle.std.proofs.lemmas.List.Elements.{recursion_from_All}
use Rattle.perm_base.specs.RoleShapes.{AreRoles, IsNumbered, shape_of}
use Rattle.perm_base.specs.declared.shapes.RoleShape.{RoleShape}
use Rattle.perm_base.specs.declared.shapes.TableId.TheVariants.{G}
use Rattle.policy_table.specs.Tables.{place}

-- the place of a relation that is found, among the tables
pub found_place : (roles : List RoleShape) (number : ℕ) (shape : RoleShape) → AreRoles roles → shape_of roles number ≡ Some shape → is_some (place (G shape.number)) ≡ true
found_place roles number shape are found = at roles (recursion_from_All IsNumbered roles are.each) found
  where
    known : (role : RoleShape) → IsNumbered role → is_some (place (G role.number)) ≡ true
    known role is = rw (lt-ltb 0 role.number is.some, lt-ltb role.number 9 (omega (arith, is.few))) refl

    at : (roles : List RoleShape) → AllByRecursion IsNumbered roles → shape_of roles number ≡ Some shape → is_some (place (G shape.number)) ≡ true
    at [] each is = absurd cc
    at (role ∷ others) each is = by (eqb role.number number) is (at others each.1)
      where
        by : (test : Bool) → cond test (Some role) (shape_of others number) ≡ Some shape → (shape_of others number ≡ Some shape → is_some (place (G shape.number)) ≡ true) → is_some (place (G shape.number)) ≡ true
        by true here rest =
            let own : shape ≡ role = cc in
            subst (λ (r : RoleShape). is_some (place (G r.number)) ≡ true) (sym own) (known role each.0)
        by false here rest = rest here
