-- The depth of a row of p.
use Rattle.std.proofs.Common.{◌≡◌, ℕ, true, All, List, [], get_or, replicate, Option, None, Some, sym, ap, subst, ◌∙◌}
use Rattle.std.specs.Prelude.{IfSome, codes, position, slice_get, unwrap_or}
use Rattle.std.specs.Option.{option_and_then}
use Rattle.std.proofs.lemmas.List.Elements.{All-replicate}
use Rattle.std.proofs.lemmas.Option.{unwrap_or-slice_get}
use Rattle.std.specs.Str.{bytes_eq}
use Rattle.perm_base.specs.RoleShapes.{shape_of}
use Rattle.perm_base.specs.declared.shapes.RoleShape.{RoleShape}
use Rattle.policy_table.specs.Tables.{Fields}
use Rattle.role_meaning.specs.Depths.{IsDepth}
use Rattle.matcher_meaning.specs.Cases.{Case}
use Rattle.matcher_meaning.specs.Order.{domain_of_row}
use Rattle.decision.specs.Helps.Firsts.{IsKnownIn}
use Rattle.decision.specs.declared.depths.Known.{Known}

-- the depth that the section of the relation gives
pub depth_in_section : (roles : List RoleShape) (shape own : RoleShape) (table : List Fields) (limit own_limit : ℕ) (domain : Option (List ℕ)) (subject : List ℕ) (depth : ℕ) → shape_of roles 1 ≡ Some own → own_limit ≡ limit
    → IsDepth own table own_limit domain subject depth → shape_of roles 1 ≡ Some shape → IsDepth shape table limit domain subject depth
depth_in_section roles shape own table limit own_limit domain subject depth own_there limit_is is there =
    let same : own ≡ shape = let e : Some own ≡ Some shape = sym own_there ∙ there in cc in
    subst (λ (s : RoleShape). IsDepth s table limit domain subject depth) same (subst (λ (n : ℕ). IsDepth own table n domain subject depth) limit_is is)

-- the domain of a row is its field at the place of the column `dom`
pub domain_in_column : (case : Case) (shape : RoleShape) (fields : Fields) (at : ℕ) (text : List ℕ) → position (bytes_eq (codes "dom")) case.model.policy ≡ Some at → shape.with_domain ≡ true → text ≡ get_or fields at [] → Some text ≡ domain_of_row case shape fields
domain_in_column case shape fields at text place with_domain is =
    rw with_domain (ap (λ (t : List ℕ). Some t) (is ∙ sym (unwrap_or-slice_get fields at []) ∙ sym (ap (λ (found : Option ℕ). unwrap_or (option_and_then (λ (at : ℕ). slice_get fields at) found) []) place)))

-- no depth is known
pub no_depths : (case : Case) → All (λ (one : Option Known). IfSome one (IsKnownIn case)) (replicate 128 None)
no_depths case = All-replicate (λ (one : Option Known). IfSome one (IsKnownIn case)) 128 None tt
