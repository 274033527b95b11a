-- What a question that is not refused meets, and the names to which a name is linked.
use Rattle.std.proofs.Common.{◌≡◌, ◌⊎◌, inl, inr, ℕ, zero, suc, Bool, true, false, eqb, List, Option, Some, None, map, refl, sym, subst}
use Rattle.std.specs.Prelude.{if◌then◌else◌, is_some}
use Rattle.std.specs.List.{Contains}
use Rattle.std.specs.Option.{option_map_or}
use Rattle.perm_base.specs.RoleShapes.{shape_of}
use Rattle.perm_base.specs.declared.shapes.RoleShape.{RoleShape}
use Rattle.perm_base.specs.declared.shapes.Shapes.{Shapes}
use Rattle.perm_base.specs.declared.shapes.TableId.TheVariants.{G}
use Rattle.policy_query.specs.Names.{named_columns, names_refusal}
use Rattle.policy_query.specs.declared.refused.QueryRefused.{QueryRefused}
use Rattle.policy_query.specs.declared.refused.QueryRefused.TheVariants.{NoTable, Columns}
use Rattle.policy_state.specs.Asked.{IsAskedOf}
use Rattle.policy_table.specs.Tables.{Fields, Policy, rows}
use Rattle.role_meaning.specs.Implied.{AreImplied}
use Rattle.role_meaning.specs.Links.{IsLinked, Reaches, SomeLink, role_of}
use Rattle.role_meaning.proofs.CallerLemmas.{map_stands, reaches_itself, reaches_last}
use Rattle.rbac_query.specs.Asked.{OfRelation}

-- a domain is given where the relation has domains, and nowhere else
same_columns : (wants gives : Bool) (refused : QueryRefused) → (if eqb (named_columns wants) (named_columns gives) then None else Some refused) ≡ None → gives ≡ wants
same_columns true true refused passes = refl
same_columns true false refused passes = absurd cc
same_columns false true refused passes = absurd cc
same_columns false false refused passes = refl

pub asked_of : (shapes : Shapes) (relation : ℕ) (domain : Option (List ℕ)) → names_refusal shapes relation domain ≡ None → IsAskedOf shapes relation domain
asked_of shapes relation domain passes = by (shape_of shapes.roles relation) refl passes
  where
    by : (found : Option RoleShape) → shape_of shapes.roles relation ≡ found
        → option_map_or (λ (shape : RoleShape). if eqb (named_columns shape.with_domain) (named_columns (is_some domain)) then None else Some (Columns (named_columns shape.with_domain) (named_columns (is_some domain)))) found (Some (NoTable (G relation))) ≡ None
        → IsAskedOf shapes relation domain
    by None is fault = absurd cc
    by (Some shape) is fault = record {
      shape = shape;
      there = is;
      asked = same_columns shape.with_domain (is_some domain) (Columns (named_columns shape.with_domain) (named_columns (is_some domain))) fault;
    }

-- what holds of each shape that the relation may have, and of its rows, holds of the relation
pub of_asked : (shapes : Shapes) (policy : Policy) (relation : ℕ) (domain : Option (List ℕ)) (Holds : RoleShape → List Fields → Type 0) → IsAskedOf shapes relation domain
    → ((shape : RoleShape) → shape_of shapes.roles relation ≡ Some shape → Holds shape (rows policy (G relation))) → OfRelation shapes policy relation Holds
of_asked shapes policy relation domain Holds known each = record { shape = known.shape; there = known.there; holds = each known.shape known.there }

-- a name that is reached and is not the name itself is a role
pub reached_role : (shape : RoleShape) (links : List Fields) (domain : Option (List ℕ)) (many : ℕ) (x y : List ℕ) → Reaches shape links domain many x y → (x ≡ y → ⊥) → Contains (map role_of links) y
unfolding Reaches
reached_role shape links domain zero x y reaches other = absurd (other reaches)
reached_role shape links domain (suc many) x y reaches other = by (reaches_last shape links domain many x y reaches) (λ fewer. reached_role shape links domain many x y fewer other)
  where
    by : Reaches shape links domain many x y ⊎ ((z : List ℕ) × Reaches shape links domain many x z × SomeLink shape links domain z (λ role. role ≡ y)) → (Reaches shape links domain many x y → Contains (map role_of links) y) → Contains (map role_of links) y
    by (inl fewer) more = more fewer
    by (inr (z, fewer, link)) more = subst (Contains (map role_of links)) link.holds (map_stands role_of links link.row link.stands)

-- a name is linked to itself and to its implied roles
pub linked_to : (shape : RoleShape) (links : List Fields) (limit : ℕ) (domain : Option (List ℕ)) (x y : List ℕ) (names : List (List ℕ)) → AreImplied shape links limit domain x names → (x ≡ y) ⊎ Contains names y → IsLinked shape links limit domain x y
linked_to shape links limit domain x y names implied (inl same) = reaches_itself shape links domain limit x y same
linked_to shape links limit domain x y names implied (inr there) = ((implied.members y).0 there).linked

pub linked_from : (shape : RoleShape) (links : List Fields) (limit : ℕ) (domain : Option (List ℕ)) (x y : List ℕ) (names : List (List ℕ)) → AreImplied shape links limit domain x names → (x ≡ y → ⊥) → IsLinked shape links limit domain x y → Contains names y
linked_from shape links limit domain x y names implied other linked =
    (implied.members y).1 (record { other = λ same. other (sym same); linked = linked; role = reached_role shape links domain limit x y linked other })
