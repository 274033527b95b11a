-- The columns of a plan's key are those of the policy.
use Rattle.std.proofs.Common.{◌≡◌, ℕ, ◌&&◌, Bool, true, List, [], ◌∷◌, ◌++◌, length, Option, Some, None, IfSome, refl, ap, ◌∙◌}
use Rattle.std.specs.Prelude.{nat_lt, option_and_then, option_map}
use Rattle.std.specs.List.{list_all}
use Rattle.std.specs.Option.{option_or, option_to_list}
use Rattle.std.specs.Str.{bytes_eq}
use Rattle.std.proofs.lemmas.Bool.{lt-ltb}
use Rattle.std.proofs.lemmas.List.Quantifiers.{position-Some}
use Rattle.policy_index.specs.Keys.{KeyParts, is_below}
use Rattle.matcher_read.specs.Expression.{Expression}
use Rattle.model_conf.specs.ModelText.{ModelParts}
use Rattle.model_conf.specs.Shapes.{place_of}
use Rattle.decision.specs.Plans.{Asked, Fitted, Fitting, Pair, Questioned, asked_of_question, compared, first_fitting, first_question, fitted, fitting_of, key_of, pair_of, pairs_in, plan_by, plan_in, policy_places, questioned}

-- a column's place is one of the columns
placed : (columns : List (List ℕ)) (column : List ℕ) (at : ℕ) → place_of columns column ≡ Some at → nat_lt at (length columns) ≡ true
placed columns column at is = lt-ltb at (length columns) (position-Some (bytes_eq column) columns at [] is).0

module _ (model : ModelParts) where
  abbrev size : ℕ
  size = length model.policy

  pairs_below : (es : List Expression) → list_all (λ (column : ℕ). nat_lt column size) (policy_places (pairs_in model es)) ≡ true
  pairs_below [] = refl
  pairs_below (e ∷ es) = by (compared e) (pairs_below es)
    where
      by : (o : Option (List ℕ × List ℕ)) → list_all (λ (column : ℕ). nat_lt column size) (policy_places (pairs_in model es)) ≡ true → list_all (λ (column : ℕ). nat_lt column size) (policy_places (option_to_list (option_and_then (pair_of model) o) ++ pairs_in model es)) ≡ true
      by None rest = rest
      by (Some columns) rest = at_place (place_of model.policy columns.1) refl
        where
          at_place : (p : Option ℕ) → place_of model.policy columns.1 ≡ p
              → list_all (λ (column : ℕ). nat_lt column size) (policy_places (option_to_list (option_map (λ (at : ℕ). record { request = place_of model.request columns.0; policy = at }) p) ++ pairs_in model es)) ≡ true
          at_place None is = rest
          at_place (Some at) is = ap (λ (b : Bool). b && list_all (λ (column : ℕ). nat_lt column size) (policy_places (pairs_in model es))) (placed model.policy columns.1 at is) ∙ rest

  fitting_below : (es : List Expression) → IfSome (first_fitting model es) (λ (is : Fitting). nat_lt is.pattern.column size ≡ true)
  fitting_below [] = tt
  fitting_below (e ∷ es) = by (fitted e) (fitting_below es)
    where
      by : (o : Option Fitted) → IfSome (first_fitting model es) (λ (is : Fitting). nat_lt is.pattern.column size ≡ true) → IfSome (option_or (option_and_then (fitting_of model) o) (first_fitting model es)) (λ (is : Fitting). nat_lt is.pattern.column size ≡ true)
      by None rest = rest
      by (Some one) rest = at_place (place_of model.policy one.column) refl
        where
          at_place : (p : Option ℕ) → place_of model.policy one.column ≡ p
              → IfSome (option_or (option_map (λ (at : ℕ). record { request = place_of model.request one.asked; pattern = record { column = at; kind = one.kind } }) p) (first_fitting model es)) (λ (is : Fitting). nat_lt is.pattern.column size ≡ true)
          at_place None is = rest
          at_place (Some at) is = placed model.policy one.column at is

  question_below : (es : List Expression) → IfSome (first_question model es) (λ (is : Asked). nat_lt is.policy size ≡ true)
  question_below [] = tt
  question_below (e ∷ es) = by (questioned e) (question_below es)
    where
      by : (o : Option Questioned) → IfSome (first_question model es) (λ (is : Asked). nat_lt is.policy size ≡ true) → IfSome (option_or (option_and_then (asked_of_question model) o) (first_question model es)) (λ (is : Asked). nat_lt is.policy size ≡ true)
      by None rest = rest
      by (Some one) rest = at_place (place_of model.policy one.column) refl
        where
          at_place : (p : Option ℕ) → place_of model.policy one.column ≡ p
              → IfSome (option_or (option_map (λ (at : ℕ). record { number = one.number; request = place_of model.request one.asked; policy = at; domain = option_map (place_of model.request) one.domain }) p) (first_question model es)) (λ (is : Asked). nat_lt is.policy size ≡ true)
          at_place None is = rest
          at_place (Some at) is = placed model.policy one.column at is

  both : (a b : Bool) → a ≡ true → b ≡ true → (a && b) ≡ true
  both a b one other = ap (λ (x : Bool). x && b) one ∙ other

  key_by : (pairs : List Pair) (fitting : Option Fitting) (asked : Option Asked) → list_all (λ (column : ℕ). nat_lt column size) (policy_places pairs) ≡ true → IfSome fitting (λ (is : Fitting). nat_lt is.pattern.column size ≡ true)
      → IfSome asked (λ (is : Asked). nat_lt is.policy size ≡ true) → IfSome (option_map key_of (plan_by pairs fitting asked)) (λ (key : KeyParts). is_below size key ≡ true)
  key_by pairs (Some fitting) asked pairs_low fitting_low asked_low = both (list_all (λ (column : ℕ). nat_lt column size) (policy_places pairs)) (nat_lt fitting.pattern.column size) pairs_low fitting_low
  key_by (pair ∷ pairs) None asked pairs_low fitting_low asked_low = both (list_all (λ (column : ℕ). nat_lt column size) (policy_places (pair ∷ pairs))) true pairs_low refl
  key_by [] None None pairs_low fitting_low asked_low = tt
  key_by [] None (Some asked) pairs_low fitting_low asked_low = ap (λ (b : Bool). (b && true) && true) asked_low

  pub key_below : (es : List Expression) → IfSome (option_map key_of (plan_in model es)) (λ (key : KeyParts). is_below size key ≡ true)
  key_below es = key_by (pairs_in model es) (first_fitting model es) (first_question model es) (pairs_below es) (fitting_below es) (question_below es)
