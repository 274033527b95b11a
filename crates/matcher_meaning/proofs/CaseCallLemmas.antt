-- Each call has one answer, role relations being asked of the tables.
use Rattle.std.proofs.Common.{◌≡◌, ◌↔◌, ℕ, Bool, true, false, true≢false, List, [], ◌∷◌, Option, Some, None, is_some, IsTrue, refl, sym, ap, ◌∙◌, subst}
use Rattle.effect_fold.specs.declared.fault.Cause.TheVariants.{Kind}
use Rattle.matcher_read.specs.Expression.{Callee, function, relation, unknown}
use Rattle.perm_base.specs.RoleShapes.{shape_of}
use Rattle.perm_base.specs.declared.shapes.RoleShape.{RoleShape}
use Rattle.perm_base.specs.declared.shapes.Shapes.{Shapes}
use Rattle.perm_base.specs.declared.shapes.TableId.TheVariants.{G}
use Rattle.perm_value.specs.Datum.{Datum}
use Rattle.policy_table.specs.Tables.{Fields, Policy, rows}
use Rattle.role_meaning.specs.Links.{Reaches}
use Rattle.matcher_meaning.specs.Answers.{fails}
use Rattle.matcher_meaning.specs.Calls.{texts_of}
use Rattle.matcher_meaning.specs.CaseCalls.{IsLink, GivesForTwo, GivesForThree, GivesForTexts, Gives}
use Rattle.matcher_meaning.specs.Cases.{Case, IsLinkedBy}
use Rattle.matcher_meaning.proofs.CallLemmas.{AtMostOne, AtLeastOne, FunctionsAgree, FunctionsDecide, one_whether, one_of_two, one_of_three, some_whether, some_of_two, some_of_three}

-- a test tells whether a name reaches another
abbrev pub ReachingIsDecided : Type 0
ReachingIsDecided = (shape : RoleShape) (table : List Fields) (domain : Option (List ℕ)) (links : ℕ) (x y : List ℕ) → (b : Bool) × (IsTrue b ↔ Reaches shape table domain links x y)

-- a test tells whether a fact holds
abbrev pub IsDecided : Type 0 → Type 0
IsDecided fact = (b : Bool) × (IsTrue b ↔ fact)

pub not_so : (fact : Type 0) → ¬ fact → IsDecided fact
not_so fact never = (false, ((λ h. absurd (true≢false (sym h))), λ is. absurd (never is)))

one_for_two : FunctionsAgree → (case : Case) (at : ℕ) (callee : Callee) (s t : List ℕ) → AtMostOne (GivesForTwo case at callee s t)
one_for_two agree case at (function called) s t q r = one_of_two agree case.refused at called s t q r
one_for_two agree case at (relation number) s t q r = one_whether (IsLinkedBy case.shapes case.policy number s t None) q r
one_for_two agree case at (unknown parts) s t q r = λ e g. e ∙ sym g

one_for_three : FunctionsAgree → (case : Case) (at : ℕ) (callee : Callee) (s t u : List ℕ) → AtMostOne (GivesForThree case at callee s t u)
one_for_three agree case at (function called) s t u q r = one_of_three agree at called s t u q r
one_for_three agree case at (relation number) s t u q r = one_whether (IsLinkedBy case.shapes case.policy number s t (Some u)) q r
one_for_three agree case at (unknown parts) s t u q r = λ e g. e ∙ sym g

one_for_texts : FunctionsAgree → (case : Case) (at : ℕ) (callee : Callee) (ts : Option (List (List ℕ))) → AtMostOne (GivesForTexts case at callee ts)
one_for_texts agree case at callee None q r = λ e g. e ∙ sym g
one_for_texts agree case at callee (Some []) q r = λ e g. e ∙ sym g
one_for_texts agree case at callee (Some (s ∷ [])) q r = λ e g. e ∙ sym g
one_for_texts agree case at callee (Some (s ∷ t ∷ [])) q r = one_for_two agree case at callee s t q r
one_for_texts agree case at callee (Some (s ∷ t ∷ u ∷ [])) q r = one_for_three agree case at callee s t u q r
one_for_texts agree case at callee (Some (s ∷ t ∷ u ∷ v ∷ more)) q r = λ e g. e ∙ sym g

pub gives_one : FunctionsAgree → (case : Case) (at : ℕ) (callee : Callee) (ds : List Datum) → AtMostOne (Gives case at callee ds)
gives_one agree case at callee ds = one_for_texts agree case at callee (texts_of ds)

pub same_shape : (a b : RoleShape) (given : Option RoleShape) → given ≡ Some a → given ≡ Some b → a ≡ b
same_shape a b given is was = let both : ◌≡◌ {A = Option RoleShape} (Some a) (Some b) = sym is ∙ was in cc

-- a relation that is not there links nothing
pub absent_links_nothing : (shapes : Shapes) (policy : Policy) (number : ℕ) (x y : List ℕ) (domain : Option (List ℕ)) → shape_of shapes.roles number ≡ None → ¬ (IsLinkedBy shapes policy number x y domain)
absent_links_nothing shapes policy number x y domain absent linked = let none : ◌≡◌ {A = Option RoleShape} None (Some linked.shape) = sym absent ∙ linked.has in absurd cc

-- nor does one that is asked with a domain and has none, or the other way round
pub otherwise_links_nothing : (shapes : Shapes) (policy : Policy) (number : ℕ) (x y : List ℕ) (domain : Option (List ℕ)) (shape : RoleShape)
    → shape_of shapes.roles number ≡ Some shape → (is_some domain ≡ shape.with_domain → ⊥) → ¬ (IsLinkedBy shapes policy number x y domain)
otherwise_links_nothing shapes policy number x y domain shape is differs linked =
    differs (linked.asked ∙ ap (λ (s : RoleShape). s.with_domain) (same_shape linked.shape shape (shape_of shapes.roles number) linked.has is))

-- whether a relation links a name to another is decided
pub link_is_decided : ReachingIsDecided → (shapes : Shapes) (policy : Policy) (number : ℕ) (x y : List ℕ) (domain : Option (List ℕ)) → IsDecided (IsLinkedBy shapes policy number x y domain)
link_is_decided reach shapes policy number x y domain = by_shape (shape_of shapes.roles number) refl
  where
    by_reach : (shape : RoleShape) → shape_of shapes.roles number ≡ Some shape → is_some domain ≡ shape.with_domain → IsDecided (Reaches shape (rows policy (G number)) domain shapes.limit x y)
        → IsDecided (IsLinkedBy shapes policy number x y domain)
    by_reach shape is asked (b, p) = (
      b,
      (
        (λ h. record { shape = shape; has = is; asked = asked; linked = p.0 h }),
        λ linked. p.1 (subst (λ (s : RoleShape). Reaches s (rows policy (G number)) domain shapes.limit x y) (same_shape linked.shape shape (shape_of shapes.roles number) linked.has is) linked.linked),
      ),
    )

    other_asked : (shape : RoleShape) → shape_of shapes.roles number ≡ Some shape → (is_some domain ≡ shape.with_domain → ⊥) → IsDecided (IsLinkedBy shapes policy number x y domain)
    other_asked shape is differs = not_so (IsLinkedBy shapes policy number x y domain) (otherwise_links_nothing shapes policy number x y domain shape is differs)

    by_asked : (shape : RoleShape) (asked wanted : Bool) → shape_of shapes.roles number ≡ Some shape → is_some domain ≡ asked → shape.with_domain ≡ wanted → IsDecided (IsLinkedBy shapes policy number x y domain)
    by_asked shape true true is a w = by_reach shape is (a ∙ sym w) (reach shape (rows policy (G number)) domain shapes.limit x y)
    by_asked shape false false is a w = by_reach shape is (a ∙ sym w) (reach shape (rows policy (G number)) domain shapes.limit x y)
    by_asked shape true false is a w = other_asked shape is (λ e. true≢false (sym a ∙ e ∙ w))
    by_asked shape false true is a w = other_asked shape is (λ e. true≢false (sym w ∙ sym e ∙ a))

    by_shape : (given : Option RoleShape) → shape_of shapes.roles number ≡ given → IsDecided (IsLinkedBy shapes policy number x y domain)
    by_shape (Some shape) is = by_asked shape (is_some domain) shape.with_domain is refl refl
    by_shape None is = not_so (IsLinkedBy shapes policy number x y domain) (absent_links_nothing shapes policy number x y domain is)

some_link : ReachingIsDecided → (case : Case) (number : ℕ) (s t : List ℕ) (domain : Option (List ℕ)) → AtLeastOne (IsLink case number s t domain)
some_link reach case number s t domain = some_whether (IsLinkedBy case.shapes case.policy number s t domain) (link_is_decided reach case.shapes case.policy number s t domain)

some_for_texts : FunctionsDecide → ReachingIsDecided → (case : Case) (at : ℕ) (callee : Callee) (ts : Option (List (List ℕ))) → AtLeastOne (GivesForTexts case at callee ts)
some_for_texts decide reach case at callee None = (fails Kind at, refl)
some_for_texts decide reach case at callee (Some []) = (fails Kind at, refl)
some_for_texts decide reach case at callee (Some (s ∷ [])) = (fails Kind at, refl)
some_for_texts decide reach case at (function called) (Some (s ∷ t ∷ [])) = some_of_two decide case.refused at called s t
some_for_texts decide reach case at (relation number) (Some (s ∷ t ∷ [])) = some_link reach case number s t None
some_for_texts decide reach case at (unknown parts) (Some (s ∷ t ∷ [])) = (fails Kind at, refl)
some_for_texts decide reach case at (function called) (Some (s ∷ t ∷ u ∷ [])) = some_of_three decide at called s t u
some_for_texts decide reach case at (relation number) (Some (s ∷ t ∷ u ∷ [])) = some_link reach case number s t (Some u)
some_for_texts decide reach case at (unknown parts) (Some (s ∷ t ∷ u ∷ [])) = (fails Kind at, refl)
some_for_texts decide reach case at callee (Some (s ∷ t ∷ u ∷ v ∷ more)) = (fails Kind at, refl)

pub gives_some : FunctionsDecide → ReachingIsDecided → (case : Case) (at : ℕ) (callee : Callee) (ds : List Datum) → AtLeastOne (Gives case at callee ds)
gives_some decide reach case at callee ds = some_for_texts decide reach case at callee (texts_of ds)
