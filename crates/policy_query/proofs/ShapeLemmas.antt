-- What a query for names that is not refused meets: the columns that it needs lie within the rules of its relation.
use Rattle.std.proofs.Common.{◌≡◌, ℕ, ◌<◌, Bool, true, false, eqb, List, length, All, Option, Some, None, refl, subst, arith}
use Rattle.std.specs.Prelude.{if◌then◌else◌, is_some}
use Rattle.std.specs.Option.{option_map_or}
use Rattle.std.proofs.lemmas.Bool.{eqb-true}
use Rattle.std.proofs.lemmas.List.Elements.{All-weaker}
use Rattle.std.proofs.lemmas.Option.{same_Some}
use Rattle.perm_base.specs.RoleShapes.{shape_of}
use Rattle.perm_base.specs.declared.shapes.RoleShape.{RoleShape}
use Rattle.perm_base.specs.declared.shapes.Shapes.{Shapes}
use Rattle.perm_base.specs.declared.shapes.TableId.TheVariants.{G}
use Rattle.policy_table.specs.Limits.{HaveShapes, columns_of, role_columns}
use Rattle.policy_table.specs.Tables.{Fields, Policy, rows}
use Rattle.policy_query.specs.Names.{named_columns, names_refusal}
use Rattle.policy_query.specs.declared.refused.QueryRefused.{QueryRefused}
use Rattle.policy_query.specs.declared.refused.QueryRefused.TheVariants.{NoTable, Columns}

module _ (shapes : Shapes) (policy : Policy) (relation : ℕ) (domain : Option (List ℕ)) where
  abbrev given : ℕ
  given = named_columns (is_some domain)

  -- what is refused unless a test passes is not refused where it passes
  passed : (test : Bool) (refused : QueryRefused) → (if test then None else Some refused) ≡ None → test ≡ true
  passed true refused is = refl
  passed false refused is = absurd cc

  -- the rules of a relation have one column more than are named
  more : (with_domain : Bool) → named_columns with_domain < (if with_domain then 3 else 2)
  more true = omega arith
  more false = omega arith

  long_enough : (found : Option RoleShape) (long : ℕ)
      → option_map_or (λ (shape : RoleShape). if eqb (named_columns shape.with_domain) given then None else Some (Columns (named_columns shape.with_domain) given)) found (Some (NoTable (G relation))) ≡ None
      → option_map_or (λ (shape : RoleShape). Some (role_columns shape)) found None ≡ Some long → given < long
  long_enough None long fault is = absurd cc
  long_enough (Some shape) long fault is =
      let wanted : ℕ = named_columns shape.with_domain in
      let same = eqb-true wanted given (passed (eqb wanted given) (Columns wanted given) fault) in
      subst (λ n. given < n) (same_Some (role_columns shape) long is) (subst (λ n. n < role_columns shape) same (more shape.with_domain))

  -- the rules have the columns that are named, and one more
  pub names_within : HaveShapes shapes policy → names_refusal shapes relation domain ≡ None → All (λ (rule : Fields). given < length rule) (rows policy (G relation))
  names_within shaped passes =
      All-weaker (λ (rule : Fields). columns_of shapes (G relation) ≡ Some (length rule)) (λ (rule : Fields). given < length rule)
      (λ rule is. long_enough (shape_of shapes.roles relation) (length rule) passes is) (rows policy (G relation)) (shaped.columns (G relation))
