-- Why a row that a plan does not find is excluded by a part of the matcher that counts.
use Rattle.std.proofs.Common.{◌≡◌, inl, inr, ℕ, ◌&&◌, Bool, true, false, true≢false, List, [], ◌∷◌, ◌++◌, slice_get, Option, Some, None, refl, sym, ap, subst, ◌∙◌}
use Rattle.std.specs.Prelude.{option_and_then, option_map, unwrap_or}
use Rattle.std.specs.Option.{option_map_or, option_or, option_to_list}
use Rattle.std.specs.Str.{bytes_eq}
use Rattle.std.proofs.lemmas.Option.{same_Some}
use Rattle.std.proofs.lemmas.Slice.Eq.{bytes_eq-Decides}
use Rattle.perm_value.specs.Datum.{Datum}
use Rattle.perm_value.specs.Datum as datums
use Rattle.policy_table.specs.Tables.{Fields}
use Rattle.policy_index.specs.Keys.{fits_pattern, has_texts, may_fit}
use Rattle.policy_index.specs.Places.{has_text}
use Rattle.matcher_read.specs.Expression.{Expression}
use Rattle.model_conf.specs.ModelText.{ModelParts}
use Rattle.model_conf.specs.Shapes.{place_of}
use Rattle.matcher_meaning.specs.Calls.{text_of}
use Rattle.matcher_meaning.specs.Cases.{Case, IsLinkedBy, field_of, row_text}
use Rattle.decision.specs.Plans.{Asked, Fitted, Fitting, Pair, Plan, Questioned, asked_of_question, by_pattern, by_roles, by_texts, compared, conjuncts, first_fitting, first_question, fitted, fitting_of, pair_of, pairs_in, plan_by, plan_in, plan_of, policy_places, questioned, quiet_front}
use Rattle.decision.specs.Helps.FoundRows.{AreTexts, IsDomainOf, IsTextAt, SomeIsNoText}
use Rattle.decision.specs.Helps.KeptPlans.{value_at}
use Rattle.decision.proofs.LeftOutLemmas.{Fits, IsDomainIn, SomeExcludes, by_columns, by_pattern as excluded_pattern, by_role, fitting_may, kind_is}

-- ---- what a plan comes from

pub plan_texts : (pairs ps : List Pair) (fitting : Option Fitting) (asked : Option Asked) → plan_by pairs fitting asked ≡ Some (by_texts ps) → pairs ≡ ps
plan_texts pairs ps (Some fitting) asked is = absurd cc
plan_texts (pair ∷ pairs) ps None asked is = let same : by_texts (pair ∷ pairs) ≡ by_texts ps = same_Some _ _ is in cc
plan_texts [] ps None None is = absurd cc
plan_texts [] ps None (Some asked) is = absurd cc

pub plan_pattern : (pairs ps : List Pair) (fitting : Option Fitting) (one : Fitting) (asked : Option Asked) → plan_by pairs fitting asked ≡ Some (by_pattern ps one) → (pairs ≡ ps) × (fitting ≡ Some one)
plan_pattern pairs ps (Some fitting) one asked is =
    let same : by_pattern pairs fitting ≡ by_pattern ps one = same_Some _ _ is in
    let first : pairs ≡ ps = cc in
    let second : fitting ≡ one = cc in
    (first, ap (λ (x : Fitting). Some x) second)
plan_pattern (pair ∷ pairs) ps None one asked is = absurd cc
plan_pattern [] ps None one None is = absurd cc
plan_pattern [] ps None one (Some asked) is = absurd cc

pub plan_roles : (pairs : List Pair) (fitting : Option Fitting) (asked : Option Asked) (one : Asked) → plan_by pairs fitting asked ≡ Some (by_roles one) → asked ≡ Some one
plan_roles pairs (Some fitting) asked one is = absurd cc
plan_roles (pair ∷ pairs) None asked one is = absurd cc
plan_roles [] None None one is = absurd cc
plan_roles [] None (Some asked) one is = let same : by_roles asked ≡ by_roles one = same_Some _ _ is in let asks : asked ≡ one = cc in ap (λ (x : Asked). Some x) asks

-- the plan of a model, where its parts are read one after the other
pub plan_read : (model : ModelParts) (es : List Expression) (pairs : List Pair) (fitting : Option Fitting) (asked : Option Asked) (plan : Option Plan) → es ≡ quiet_front (conjuncts model.matcher) → pairs ≡ pairs_in model es
    → fitting ≡ first_fitting model es → asked ≡ first_question model es → plan ≡ plan_by pairs fitting asked → plan_of model ≡ plan
plan_read model es pairs fitting asked plan parts pairs_are fitting_is asked_is is =
    sym (is ∙ (λ j. plan_by (pairs_are j) (fitting_is j) (asked_is j)) ∙ ap (plan_in model) parts)

-- ---- a row in a case of the request

module _ (case : Case) (fields : Fields) (row : case.row ≡ Some fields) where
  -- the row's field in a column that has this place
  pub field_at : (column : List ℕ) (at : ℕ) → place_of case.model.policy column ≡ Some at → row_text case column ≡ unwrap_or (slice_get fields at) []
  field_at column at is = ap (λ (r : Option Fields). field_of case.model.policy r column) row ∙ ap (λ (place : Option ℕ). unwrap_or (option_and_then (λ n. slice_get fields n) place) []) is

  -- another text than the one that is asked
  other_text : (text : List ℕ) (at : ℕ) → has_text at text fields ≡ false → text ≡ unwrap_or (slice_get fields at) [] → (field : List ℕ) × (slice_get fields at ≡ Some field) → ⊥
  other_text text at other same (field, there) =
      true≢false (sym ((bytes_eq-Decides text field).1 (same ∙ ap (λ (o : Option (List ℕ)). unwrap_or o []) there)) ∙ sym (ap (λ (o : Option (List ℕ)). option_map_or (bytes_eq text) o false) there) ∙ other)

  -- every column of the policy has a field in the row
  abbrev pub HasField : Type 0
  HasField = (column : List ℕ) (at : ℕ) → place_of case.model.policy column ≡ Some at → (field : List ℕ) × (slice_get fields at ≡ Some field)

  -- ---- texts that differ

  pub texts_exclude : HasField → (es : List Expression) (texts : List (List ℕ)) → AreTexts case.request (pairs_in case.model es) texts → has_texts (policy_places (pairs_in case.model es)) texts fields ≡ false → SomeExcludes case es
  texts_exclude has [] [] are other = absurd (true≢false other)
  texts_exclude has [] (t ∷ ts) are other = absurd are
  texts_exclude has (e ∷ es) texts are other = by (compared e) refl are other (texts_exclude has es)
    where
      text_is : (s t : List ℕ) → ◌≡◌ {A = Datum} (datums.text s) (datums.text t) → s ≡ t
      text_is s t same = cc

      by : (o : Option (List ℕ × List ℕ)) → compared e ≡ o → AreTexts case.request (option_to_list (option_and_then (pair_of case.model) o) ++ pairs_in case.model es) texts
          → has_texts (policy_places (option_to_list (option_and_then (pair_of case.model) o) ++ pairs_in case.model es)) texts fields ≡ false
          → ((texts : List (List ℕ)) → AreTexts case.request (pairs_in case.model es) texts → has_texts (policy_places (pairs_in case.model es)) texts fields ≡ false → SomeExcludes case es) → SomeExcludes case (e ∷ es)
      by None is are other rest = inr (rest texts are other)
      by (Some columns) is are other rest = at_place (place_of case.model.policy columns.1) refl texts are other
        where
          pair : ℕ → Pair
          pair at = record { request = place_of case.model.request columns.0; policy = at }

          at_place : (p : Option ℕ) → place_of case.model.policy columns.1 ≡ p → (texts : List (List ℕ)) → AreTexts case.request (option_to_list (option_map pair p) ++ pairs_in case.model es) texts
              → has_texts (policy_places (option_to_list (option_map pair p) ++ pairs_in case.model es)) texts fields ≡ false → SomeExcludes case (e ∷ es)
          at_place None p-is texts are other = inr (rest texts are other)
          at_place (Some at) p-is [] are other = absurd are
          at_place (Some at) p-is (t ∷ ts) are other = split (has_text at t fields) refl other
            where
              split : (b : Bool) → has_text at t fields ≡ b → (b && has_texts (policy_places (pairs_in case.model es)) ts fields) ≡ false → SomeExcludes case (e ∷ es)
              split true here later = inr (rest ts are.1 later)
              split false here later =
                  inl (by_columns columns is (
                    datums.text t,
                    are.0,
                    λ same.
                        other_text t at here (text_is t (row_text case columns.1) same ∙ field_at columns.1 at p-is) (has columns.1 at p-is),
                  ))

  -- ---- a value that is no text

  pub no_text_excludes : (es : List Expression) → SomeIsNoText case.request (pairs_in case.model es) → SomeExcludes case es
  no_text_excludes [] some = absurd some
  no_text_excludes (e ∷ es) some = by (compared e) refl some (no_text_excludes es)
    where
      by : (o : Option (List ℕ × List ℕ)) → compared e ≡ o → SomeIsNoText case.request (option_to_list (option_and_then (pair_of case.model) o) ++ pairs_in case.model es)
          → (SomeIsNoText case.request (pairs_in case.model es) → SomeExcludes case es) → SomeExcludes case (e ∷ es)
      by None is some rest = inr (rest some)
      by (Some columns) is some rest = at_place (place_of case.model.policy columns.1) refl some
        where
          pair : ℕ → Pair
          pair at = record { request = place_of case.model.request columns.0; policy = at }

          at_place : (p : Option ℕ) → place_of case.model.policy columns.1 ≡ p → SomeIsNoText case.request (option_to_list (option_map pair p) ++ pairs_in case.model es) → SomeExcludes case (e ∷ es)
          at_place None p-is some = inr (rest some)
          at_place (Some at) p-is (inl (d, value, none)) = inl (by_columns columns is (d, value, λ same. let text : ◌≡◌ {A = Option (List ℕ)} None (Some (row_text case columns.1)) = sym none ∙ ap text_of same in absurd cc))
          at_place (Some at) p-is (inr later) = inr (rest later)

  -- ---- a pattern that a text cannot fit

  pub pattern_excludes : HasField → (es : List Expression) (fitting : Fitting) (asked : List ℕ) → first_fitting case.model es ≡ Some fitting → IsTextAt case.request fitting.request asked → fits_pattern (Some fitting.pattern) asked fields ≡ false → SomeExcludes case es
  pattern_excludes has [] fitting asked first value other = absurd cc
  pattern_excludes has (e ∷ es) fitting asked first value other = by (fitted e) refl first (λ first. pattern_excludes has es fitting asked first value other)
    where
      by : (o : Option Fitted) → fitted e ≡ o → option_or (option_and_then (fitting_of case.model) o) (first_fitting case.model es) ≡ Some fitting
          → (first_fitting case.model es ≡ Some fitting → SomeExcludes case es) → SomeExcludes case (e ∷ es)
      by None is first rest = inr (rest first)
      by (Some one) is first rest = at_place (place_of case.model.policy one.column) refl first
        where
          made : ℕ → Fitting
          made at = record { request = place_of case.model.request one.asked; pattern = record { column = at; kind = one.kind } }

          at_place : (p : Option ℕ) → place_of case.model.policy one.column ≡ p → option_or (option_map made p) (first_fitting case.model es) ≡ Some fitting → SomeExcludes case (e ∷ es)
          at_place None p-is first = inr (rest first)
          at_place (Some at) p-is first =
              let mine : made at ≡ fitting = same_Some (made at) fitting first in
              let field = has one.column at p-is in
              let seen : row_text case one.column ≡ field.0 = field_at one.column at p-is ∙ ap (λ (o : Option (List ℕ)). unwrap_or o []) field.1 in
              let not_may : may_fit one.kind field.0 asked ≡ false =
              sym (ap (λ (o : Option (List ℕ)). option_map_or (λ (pattern : List ℕ). may_fit one.kind pattern asked) o false) field.1) ∙ ap (λ (x : Fitting). fits_pattern (Some x.pattern) asked fields) mine ∙ other in
              inl (excluded_pattern one is (
                asked,
                ap (λ (x : Fitting). value_at case.request x.request) mine ∙ value,
                λ fits.
                    true≢false (sym (fitting_may one.called one.kind asked field.0 (kind_is e one is) (subst (Fits one.called asked) seen fits)) ∙ not_may),
              ))

  -- ---- a role that a name has not

  pub role_excludes : HasField → (es : List Expression) (asked : Asked) (name : List ℕ) (domain : Option (List ℕ)) → first_question case.model es ≡ Some asked → IsTextAt case.request asked.request name → IsDomainOf case.request asked.domain domain
      → ((field : List ℕ) → slice_get fields asked.policy ≡ Some field → IsLinkedBy case.shapes case.policy asked.number name field domain → ⊥) → SomeExcludes case es
  role_excludes has [] asked name domain first value in_domain differs = absurd cc
  role_excludes has (e ∷ es) asked name domain first value in_domain differs = by (questioned e) refl first (λ first. role_excludes has es asked name domain first value in_domain differs)
    where
      by : (o : Option Questioned) → questioned e ≡ o → option_or (option_and_then (asked_of_question case.model) o) (first_question case.model es) ≡ Some asked
          → (first_question case.model es ≡ Some asked → SomeExcludes case es) → SomeExcludes case (e ∷ es)
      by None is first rest = inr (rest first)
      by (Some one) is first rest = at_place (place_of case.model.policy one.column) refl first
        where
          made : ℕ → Asked
          made at = record { number = one.number; request = place_of case.model.request one.asked; policy = at; domain = option_map (place_of case.model.request) one.domain }

          domain_seen : (o : Option (List ℕ)) → IsDomainOf case.request (option_map (place_of case.model.request) o) domain → IsDomainIn case o domain
          domain_seen None is = is
          domain_seen (Some column) is = is

          at_place : (p : Option ℕ) → place_of case.model.policy one.column ≡ p → option_or (option_map made p) (first_question case.model es) ≡ Some asked → SomeExcludes case (e ∷ es)
          at_place None p-is first = inr (rest first)
          at_place (Some at) p-is first =
              let mine : made at ≡ asked = same_Some (made at) asked first in
              let field = has one.column at p-is in
              let seen : row_text case one.column ≡ field.0 = field_at one.column at p-is ∙ ap (λ (o : Option (List ℕ)). unwrap_or o []) field.1 in
              inl (by_role one is (
                name,
                ap (λ (x : Asked). value_at case.request x.request) mine ∙ value,
                domain,
                domain_seen one.domain (subst (λ (x : Asked). IsDomainOf case.request x.domain domain) (sym mine) in_domain),
                λ linked.
                    differs field.0 (ap (λ (x : Asked). slice_get fields x.policy) (sym mine) ∙ field.1)
                    (subst (λ (x : Asked). IsLinkedBy case.shapes case.policy x.number name field.0 domain) mine (subst (λ (y : List ℕ). IsLinkedBy case.shapes case.policy one.number name y domain) seen linked)),
              ))
