-- What a query for names that is not refused meets in the section of its relation.
use Rattle.std.proofs.Common.{◌≡◌, ◌↔◌, ℕ, ◌+◌, Bool, true, false, eqb, All, List, [], ◌∷◌, length, get_or, Option, Some, None, Err, refl, sym, ap, subst, ◌∙◌, arith}
use Rattle.std.specs.Prelude.{IfSome, if◌then◌else◌, is_some, unwrap_or}
use Rattle.std.specs.Borrow.{Bor}
use Rattle.std.specs.List.{Contains}
use Rattle.std.specs.Option.{option_copied, option_map_or}
use Rattle.std.specs.Str.{bytes_eq}
use Rattle.std.proofs.lemmas.Bool.{and_parts, eqb-true}
use Rattle.std.proofs.lemmas.List.Elements.{All-contains, All-weaker}
use Rattle.std.proofs.lemmas.Option.{same_Some}
use Rattle.std.proofs.lemmas.Slice.Eq.{bytes_eq-Decides}
use Rattle.perm_base.specs.RoleShapes.{shape_of}
use Rattle.perm_base.specs.declared.shapes.RoleShape.{RoleShape}
use Rattle.perm_base.specs.declared.shapes.Shapes.{Shapes}
use Rattle.perm_base.specs.declared.shapes.TableId.TheVariants.{G}
use Rattle.policy_query.specs.Answers.{IsAnswer, answer_unless}
use Rattle.policy_query.specs.Names.{is_asked, named_columns, names_refusal}
use Rattle.policy_query.specs.declared.refused.QueryRefused.{QueryRefused}
use Rattle.policy_query.specs.declared.refused.QueryRefused.TheVariants.{NoTable, Columns, FilterPlace, NoMemory, NoEdit, Dropped}
use Rattle.policy_state.specs.Asked.{IsAskedOf}
use Rattle.policy_table.specs.Limits.{HaveShapes, columns_of, role_columns}
use Rattle.policy_table.specs.Tables.{Fields, Policy, rows}
use Rattle.role_domain.specs.Reach.{Reached, ReachesName}
use Rattle.role_domain.specs.Sections.{Section}
use Rattle.role_meaning.specs.Links.{IsLinked, domain_of, role_of, user_of}

pub copied_some : {X : Type 0} (o : Option (Bor X)) → is_some (option_copied o) ≡ is_some o
copied_some None = refl
copied_some (Some x) = refl

-- the refusal is the answer
pub refused_told : {T : Type 0} (value : T) (refused : QueryRefused) (first : Option QueryRefused) → first ≡ Some refused → IsAnswer (answer_unless first value) (Err refused)
refused_told {T} value (NoTable table) first is = ap (λ (o : Option QueryRefused). answer_unless o value) is
refused_told {T} value (Columns want got) first is = ap (λ (o : Option QueryRefused). answer_unless o value) is
refused_told {T} value FilterPlace first is = ap (λ (o : Option QueryRefused). answer_unless o value) is
refused_told {T} value NoMemory first is = tt
refused_told {T} value (NoEdit version) first is = ap (λ (o : Option QueryRefused). answer_unless o value) is
refused_told {T} value (Dropped start) first is = ap (λ (o : Option QueryRefused). answer_unless o value) is

-- what is not refused is asked as the relation is
pub asked_unless : (shapes : Shapes) (relation : ℕ) (domain : Option (List ℕ)) → names_refusal shapes relation domain ≡ None → IsAskedOf shapes relation domain
asked_unless shapes relation domain none = by (shape_of shapes.roles relation) refl none
  where
    passed : (test : Bool) (refused : QueryRefused) → (if test then None else Some refused) ≡ None → test ≡ true
    passed true refused is = refl
    passed false refused is = absurd cc

    same_columns : (one other : Bool) → named_columns one ≡ named_columns other → other ≡ one
    same_columns true true is = refl
    same_columns false false is = refl
    same_columns true false is = absurd (omega (arith, is))
    same_columns false true is = absurd (omega (arith, is))

    by : (found : Option RoleShape) → shape_of shapes.roles relation ≡ found
        → option_map_or (λ (shape : RoleShape). if eqb (named_columns shape.with_domain) (named_columns (is_some domain)) then None else Some (Columns (named_columns shape.with_domain) (named_columns (is_some domain)))) found (Some (NoTable (G relation))) ≡ None
        → IsAskedOf shapes relation domain
    by None there is = absurd cc
    by (Some shape) there is = record {
      shape = shape;
      there = there;
      asked = same_columns shape.with_domain (is_some domain)
          (eqb-true (named_columns shape.with_domain) (named_columns (is_some domain)) (passed (eqb (named_columns shape.with_domain) (named_columns (is_some domain))) (Columns (named_columns shape.with_domain) (named_columns (is_some domain))) is));
    }

-- the shape of its section
pub same_shape : (shapes : Shapes) (relation : ℕ) (domain : Option (List ℕ)) (shape : RoleShape) → IsAskedOf shapes relation domain → shape_of shapes.roles relation ≡ Some shape → is_some domain ≡ shape.with_domain
same_shape shapes relation domain shape asked there = asked.asked ∙ ap (λ (s : RoleShape). s.with_domain) (same_Some asked.shape shape (sym asked.there ∙ there))

-- its rules have the columns that are named, and one more
pub columns_named : (shapes : Shapes) (policy : Policy) (relation : ℕ) (domain : Option (List ℕ)) → HaveShapes shapes policy → IsAskedOf shapes relation domain → All (λ (rule : Fields). length rule ≡ named_columns (is_some domain) + 1) (rows policy (G relation))
columns_named shapes policy relation domain shaped asked =
    All-weaker (λ (rule : Fields). columns_of shapes (G relation) ≡ Some (length rule)) (λ (rule : Fields). length rule ≡ named_columns (is_some domain) + 1)
    (λ rule is. sym (same_Some (role_columns asked.shape) (length rule) (sym (ap (λ (found : Option RoleShape). option_map_or (λ (shape : RoleShape). Some (role_columns shape)) found None) asked.there) ∙ is)) ∙ one_more asked.shape.with_domain ∙ ap (λ (b : Bool). named_columns b + 1) (sym asked.asked))
    (rows policy (G relation)) (shaped.columns (G relation))
  where
    one_more : (with_domain : Bool) → (if with_domain then 3 else 2) ≡ named_columns with_domain + 1
    one_more true = refl
    one_more false = refl

-- the roles of its rules are those that the section tells
pub roles_told : (policy : Policy) (relation : ℕ) (user : List ℕ) (domain : Option (List ℕ)) (roles : List (List ℕ)) → All (λ (rule : Fields). length rule ≡ named_columns (is_some domain) + 1) (rows policy (G relation))
    → ((row : Fields) → Contains (rows policy (G relation)) row → user_of row ≡ user → domain_of row ≡ unwrap_or domain [] → Contains roles (role_of row))
    → (rule : Fields) → Contains (rows policy (G relation)) rule → is_asked 0 user domain rule ≡ true → Contains roles (get_or rule 1 [])
roles_told policy relation user domain roles columns told rule stands asked =
    told rule stands (user_is domain asked) (domain_is domain rule (All-contains (λ (r : Fields). length r ≡ named_columns (is_some domain) + 1) (rows policy (G relation)) rule columns stands) asked)
  where
    user_is : (o : Option (List ℕ)) → is_asked 0 user o rule ≡ true → user_of rule ≡ user
    user_is None is = sym ((bytes_eq-Decides user (user_of rule)).0 (and_parts (bytes_eq user (user_of rule)) true is).0)
    user_is (Some d) is = sym ((bytes_eq-Decides user (user_of rule)).0 (and_parts (bytes_eq user (user_of rule)) (bytes_eq d (domain_of rule)) is).0)

    domain_is : (o : Option (List ℕ)) (row : Fields) → length row ≡ named_columns (is_some o) + 1 → is_asked 0 user o row ≡ true → domain_of row ≡ unwrap_or o []
    domain_is None [] long is = refl
    domain_is None (a ∷ []) long is = refl
    domain_is None (a ∷ b ∷ []) long is = refl
    domain_is None (a ∷ b ∷ c ∷ rest) long is = absurd (omega (arith, long))
    domain_is (Some d) row long is = sym ((bytes_eq-Decides d (domain_of row)).0 (and_parts (bytes_eq user (user_of row)) (bytes_eq d (domain_of row)) is).1)

-- what a name reaches in the section, for the relation as it is asked
pub reach_told : (result : Option Reached) (section : Section) (shape : RoleShape) (limit : ℕ) (all : List Fields) (domain : Option (List ℕ)) (x : List ℕ) → section.shape ≡ shape → section.limit ≡ limit
    → IfSome result (λ reach. (y : List ℕ) → ReachesName reach y ↔ IsLinked section.shape all section.limit domain x y) → IfSome result (λ reach. (y : List ℕ) → ReachesName reach y ↔ IsLinked shape all limit domain x y)
reach_told None section shape limit all domain x same_shape same_limit told = tt
reach_told (Some reach) section shape limit all domain x same_shape same_limit told = λ y.
    subst (λ (s : RoleShape). ReachesName reach y ↔ IsLinked s all limit domain x y) same_shape (subst (λ (n : ℕ). ReachesName reach y ↔ IsLinked section.shape all n domain x y) same_limit (told y))
