-- Why a row tells alone whether a matcher holds that compares columns, asks for a role at most once, and does nothing else.
use Rattle.std.proofs.Common.{◌≡◌, ◌↔◌, IsTrue, ℕ, suc, ◌+◌, ◌-◌, ◌≤◌, ◌<◌, ◌==◌, ◌&&◌, Bool, true, false, true≢false, cond, List, [], ◌∷◌, ◌++◌, length, map, Option, Some, None, Result, Ok, refl, sym, ap, ◌∙◌, subst, inl, inr, ◌⊎◌, arith}
use Rattle.std.specs.Prelude.{IfSome, nat_lt, option_and_then, option_map, slice_get, unwrap_or}
use Rattle.std.specs.List.{AllByRecursion, list_all, list_any}
use Rattle.std.specs.Option.{option_or, option_to_list}
use Rattle.std.specs.Str.{bytes_eq}
use Rattle.std.proofs.lemmas.Bool.{and_parts, eqb-true, ltb-true}
use Rattle.std.proofs.lemmas.Option.{same_Some}
use Rattle.std.proofs.lemmas.Slice.Eq.{bytes_eq-Decides}
use Rattle.effect_fold.specs.declared.fault.Fault.{Fault}
use Rattle.perm_value.specs.Datum.{Datum}
use Rattle.perm_value.specs.Datum as datums
use Rattle.perm_value.specs.Equality.{datum_eq}
use Rattle.perm_value.specs.Helps.EqualityLaws.{datum_eq-Decides}
use Rattle.perm_value.specs.Seen.{datum}
use Rattle.perm_value.specs.declared.value.Value.{Value}
use Rattle.policy_state.specs.States.{State, tables}
use Rattle.policy_table.specs.Tables.{Fields}
use Rattle.matcher_read.specs.Expression.{Expression, binary, call, place, policy, request}
use Rattle.matcher_read.specs.declared.tree.Operator.TheVariants as op
use Rattle.model_conf.specs.ModelText.{ModelParts}
use Rattle.model_conf.specs.Shapes.{place_of}
use Rattle.model_conf.specs.Uses.{uses}
use Rattle.matcher_meaning.specs.Answers as answers
use Rattle.matcher_meaning.specs.Answers.{Evaluation}
use Rattle.matcher_meaning.specs.Calls.{text_of}
use Rattle.matcher_meaning.specs.Cases.{Case, IsLinkedBy, asked_value, at_row, row_text, where_refused}
use Rattle.matcher_meaning.specs.Comes.{ComesTo, TruthIs}
use Rattle.matcher_meaning.specs.Meaning.{truth_at}
use Rattle.matcher_meaning.specs.Operators.{joined}
use Rattle.matcher_meaning.specs.Verdicts.{case_of}
use Rattle.decision.specs.Plans.{Asked, Pair, Questioned, asked_column, asked_of_question, both_columns, compared, conjuncts, first_question, is_quiet, pair_of, pairs_in, policy_column, questioned, quiet_front}
use Rattle.decision.specs.Helps.Asked.{DecideAlone, case_in}
use Rattle.decision.specs.Helps.FoundRows.{IsDomainOf, IsTextAt}
use Rattle.decision.specs.Helps.KeptPlans.{IsPlan, are_plain, asked_seen, pair_seen, parts_of_plan, serves}
use Rattle.decision.specs.Helps.PlainParts.{IsAnswered, IsLinkedAt, IsToldBy, NotLinkedAt, field_at, has_same_text, have_same_texts, is_text}
use Rattle.decision.specs.declared.asking.Asking.{Asking}
use Rattle.decision.specs.declared.plain_parts.PlainParts.{PlainParts}
use Rattle.decision.specs.declared.plan.AskedColumns.{AskedColumns}
use Rattle.decision.specs.declared.plan.EqualColumns.{EqualColumns}
use Rattle.decision.specs.declared.plan.KeptPlan.{KeptPlan}
use Rattle.decision.proofs.LeftOutLemmas.{Behind, Excludes, HasValues, IsDomainIn, Linked, NotLinked, SomeExcludes, are_declared, both_are, by_columns, by_role, column_comes, declared_column, declared_parts, each_parts, either, equality_comes, field_comes, left_out, linked_comes, right_is, side_is}
use Rattle.decision.proofs.LookLemmas.{all_declared, has_texts, has_values}
use Rattle.decision.proofs.PlanLemmas.{field_at as field_in}

-- ---- parts of two kinds

-- it compares a column of the request with one that the policy has at this place
pub record IsCompared (model : ModelParts) (e : Expression) : Type 0 where
  pub columns : List ℕ × List ℕ
  pub compares : compared e ≡ Some columns
  pub at : ℕ
  pub there : place_of model.policy columns.1 ≡ Some at
  pub quiet : is_quiet e ≡ true

-- it asks this question about a column of the request
pub record IsQuestion (model : ModelParts) (asked : Asked) (e : Expression) : Type 0 where
  pub is : Questioned
  pub asks : questioned e ≡ Some is
  pub at : ℕ
  pub there : place_of model.policy is.column ≡ Some at
  pub own : record { number = is.number; request = place_of model.request is.asked; policy = at; domain = option_map (place_of model.request) is.domain } ≡ asked
  pub quiet : is_quiet e ≡ true

-- where there is a question, each part compares or is the question
abbrev pub IsPlain : ModelParts → Option Asked → Expression → Type 0
IsPlain model None e = IsCompared model e
IsPlain model (Some asked) e = IsCompared model e ⊎ IsQuestion model asked e

abbrev own_pair : (model : ModelParts) (columns : List ℕ × List ℕ) → ℕ → Pair
own_pair model columns at = record { request = place_of model.request columns.0; policy = at }

abbrev own_question : ModelParts → Questioned → ℕ → Asked
own_question model is at = record { number = is.number; request = place_of model.request is.asked; policy = at; domain = option_map (place_of model.request) is.domain }

-- no expression is both
one_kind : (e : Expression) → (compared e ≡ None) ⊎ (questioned e ≡ None)
one_kind (binary at o e f) = inr refl
one_kind _ = inl refl

quiet_is : (e : Expression) → (is_quiet e ≡ true) ⊎ (is_quiet e ≡ false)
quiet_is e = by (is_quiet e)
  where
    by : (b : Bool) → (b ≡ true) ⊎ (b ≡ false)
    by true = inl refl
    by false = inr refl

-- a pair of an expression, or none
pair_cases : (model : ModelParts) (e : Expression) → ((columns : List ℕ × List ℕ) × (at : ℕ) × (compared e ≡ Some columns) × (place_of model.policy columns.1 ≡ Some at) × (option_and_then (pair_of model) (compared e) ≡ Some (own_pair model columns at)))
    ⊎ (option_and_then (pair_of model) (compared e) ≡ None)
pair_cases model e = by (compared e) refl
  where
    by : (o : Option (List ℕ × List ℕ)) → compared e ≡ o → ((columns : List ℕ × List ℕ) × (at : ℕ) × (compared e ≡ Some columns) × (place_of model.policy columns.1 ≡ Some at) × (option_and_then (pair_of model) (compared e) ≡ Some (own_pair model columns at)))
        ⊎ (option_and_then (pair_of model) (compared e) ≡ None)
    by None is = inr (ap (λ (o : Option (List ℕ × List ℕ)). option_and_then (pair_of model) o) is)
    by (Some columns) is = placed (place_of model.policy columns.1) refl
      where
        placed : (p : Option ℕ) → place_of model.policy columns.1 ≡ p → ((columns : List ℕ × List ℕ) × (at : ℕ) × (compared e ≡ Some columns) × (place_of model.policy columns.1 ≡ Some at) × (option_and_then (pair_of model) (compared e) ≡ Some (own_pair model columns at)))
            ⊎ (option_and_then (pair_of model) (compared e) ≡ None)
        placed None there = inr (ap (λ (o : Option (List ℕ × List ℕ)). option_and_then (pair_of model) o) is ∙ ap (λ (p : Option ℕ). option_map (λ (at : ℕ). own_pair model columns at) p) there)
        placed (Some at) there = inl (columns, at, is, there, ap (λ (o : Option (List ℕ × List ℕ)). option_and_then (pair_of model) o) is ∙ ap (λ (p : Option ℕ). option_map (λ (at : ℕ). own_pair model columns at) p) there)

-- the question of an expression, where it is the first
question_there : (model : ModelParts) (e : Expression) (asked : Asked) → is_quiet e ≡ true → option_and_then (asked_of_question model) (questioned e) ≡ Some asked → IsQuestion model asked e
question_there model e asked quiet is = by (questioned e) refl is
  where
    by : (o : Option Questioned) → questioned e ≡ o → option_and_then (asked_of_question model) o ≡ Some asked → IsQuestion model asked e
    by None e-is is = absurd cc
    by (Some one) e-is is = placed (place_of model.policy one.column) refl is
      where
        placed : (p : Option ℕ) → place_of model.policy one.column ≡ p → option_map (λ (at : ℕ). own_question model one at) p ≡ Some asked → IsQuestion model asked e
        placed None there is = absurd cc
        placed (Some at) there is = record { is = one; asks = e-is; at = at; there = there; own = same_Some (own_question model one at) asked is; quiet = quiet }

-- ---- how many there are

pairs_le : (model : ModelParts) (es : List Expression) → length (pairs_in model es) ≤ length es
pairs_le model [] = omega arith
pairs_le model (e ∷ es) = by (option_and_then (pair_of model) (compared e)) (pairs_le model es)
  where
    by : (o : Option Pair) → length (pairs_in model es) ≤ length es → length (option_to_list o ++ pairs_in model es) ≤ length (e ∷ es)
    by None rest = omega (arith, rest)
    by (Some pair) rest = omega (arith, rest)

front_le : (es : List Expression) → length (quiet_front es) ≤ length es
front_le [] = omega arith
front_le (e ∷ es) = by (is_quiet e) (front_le es)
  where
    by : (b : Bool) → length (quiet_front es) ≤ length es → length (cond b (e ∷ quiet_front es) []) ≤ length (e ∷ es)
    by true rest = omega (arith, rest)
    by false rest = omega arith

few_pairs : (model : ModelParts) (es : List Expression) → length (pairs_in model (quiet_front es)) ≤ length es
few_pairs model es = omega (arith, pairs_le model (quiet_front es), front_le es)

front_quiet : (e : Expression) (es : List Expression) → is_quiet e ≡ true → quiet_front (e ∷ es) ≡ e ∷ quiet_front es
front_quiet e es is = ap (λ (b : Bool). cond b (e ∷ quiet_front es) []) is

front_none : (e : Expression) (es : List Expression) → is_quiet e ≡ false → quiet_front (e ∷ es) ≡ []
front_none e es is = ap (λ (b : Bool). cond b (e ∷ quiet_front es) []) is

one_less : (n m : ℕ) → suc n ≡ suc m → n ≡ m
one_less n m is = omega (arith, is)

-- where there are as many pairs as parts, each part compares one
all_compared : (model : ModelParts) (es : List Expression) → length (pairs_in model (quiet_front es)) ≡ length es → AllByRecursion (IsCompared model) es
all_compared model [] many = tt
all_compared model (e ∷ es) many = by (quiet_is e) (all_compared model es)
  where
    by : (is_quiet e ≡ true) ⊎ (is_quiet e ≡ false) → (length (pairs_in model (quiet_front es)) ≡ length es → AllByRecursion (IsCompared model) es) → AllByRecursion (IsCompared model) (e ∷ es)
    by (inr is) rest =
        let none : 0 ≡ length (e ∷ es) = sym (ap (λ (front : List Expression). length (pairs_in model front)) (front_none e es is)) ∙ many in
        absurd (omega (arith, none))
    by (inl is) rest = paired (pair_cases model e)
      where
        whole : length (option_to_list (option_and_then (pair_of model) (compared e)) ++ pairs_in model (quiet_front es)) ≡ length (e ∷ es)
        whole = sym (ap (λ (front : List Expression). length (pairs_in model front)) (front_quiet e es is)) ∙ many

        paired : ((columns : List ℕ × List ℕ) × (at : ℕ) × (compared e ≡ Some columns) × (place_of model.policy columns.1 ≡ Some at) × (option_and_then (pair_of model) (compared e) ≡ Some (own_pair model columns at)))
            ⊎ (option_and_then (pair_of model) (compared e) ≡ None) → AllByRecursion (IsCompared model) (e ∷ es)
        paired (inl (columns, at, compares, there, pair)) =
            let more : suc (length (pairs_in model (quiet_front es))) ≡ suc (length es) = sym (ap (λ (o : Option Pair). length (option_to_list o ++ pairs_in model (quiet_front es))) pair) ∙ whole in
            (record { columns = columns; compares = compares; at = at; there = there; quiet = is }, rest (one_less (length (pairs_in model (quiet_front es))) (length es) more))
        paired (inr none) =
            let fewer : length (pairs_in model (quiet_front es)) ≡ length (e ∷ es) = sym (ap (λ (o : Option Pair). length (option_to_list o ++ pairs_in model (quiet_front es))) none) ∙ whole in
            absurd (omega (arith, fewer, few_pairs model es))

-- parts that compare ask no question
no_question : (model : ModelParts) (es : List Expression) → AllByRecursion (IsCompared model) es → first_question model (quiet_front es) ≡ None
no_question model [] are = refl
no_question model (e ∷ es) are =
    ap (first_question model) (front_quiet e es are.0.quiet)
    ∙ ap (λ (o : Option Questioned). option_or (option_and_then (asked_of_question model) o) (first_question model (quiet_front es))) (asks_none (one_kind e)) ∙ no_question model es are.1
  where
    asks_none : (compared e ≡ None) ⊎ (questioned e ≡ None) → questioned e ≡ None
    asks_none (inl none) = let both : ◌≡◌ {A = Option (List ℕ × List ℕ)} (Some are.0.columns) None = sym are.0.compares ∙ none in absurd cc
    asks_none (inr none) = none

-- where there is one pair less and a question, each other part compares
all_but_one : (model : ModelParts) (asked : Asked) (es : List Expression) → suc (length (pairs_in model (quiet_front es))) ≡ length es → first_question model (quiet_front es) ≡ Some asked → AllByRecursion (IsPlain model (Some asked)) es
all_but_one model asked [] many first = absurd (omega (arith, many))
all_but_one model asked (e ∷ es) many first = by (quiet_is e) (all_but_one model asked es)
  where
    by : (is_quiet e ≡ true) ⊎ (is_quiet e ≡ false) → (suc (length (pairs_in model (quiet_front es))) ≡ length es → first_question model (quiet_front es) ≡ Some asked → AllByRecursion (IsPlain model (Some asked)) es) → AllByRecursion (IsPlain model (Some asked)) (e ∷ es)
    by (inr is) rest = let none : ◌≡◌ {A = Option Asked} None (Some asked) = sym (ap (first_question model) (front_none e es is)) ∙ first in absurd cc
    by (inl is) rest = paired (pair_cases model e)
      where
        whole : suc (length (option_to_list (option_and_then (pair_of model) (compared e)) ++ pairs_in model (quiet_front es))) ≡ length (e ∷ es)
        whole = sym (ap (λ (front : List Expression). suc (length (pairs_in model front))) (front_quiet e es is)) ∙ many

        asks : option_or (option_and_then (asked_of_question model) (questioned e)) (first_question model (quiet_front es)) ≡ Some asked
        asks = sym (ap (first_question model) (front_quiet e es is)) ∙ first

        paired : ((columns : List ℕ × List ℕ) × (at : ℕ) × (compared e ≡ Some columns) × (place_of model.policy columns.1 ≡ Some at) × (option_and_then (pair_of model) (compared e) ≡ Some (own_pair model columns at)))
            ⊎ (option_and_then (pair_of model) (compared e) ≡ None) → AllByRecursion (IsPlain model (Some asked)) (e ∷ es)
        paired (inl (columns, at, compares, there, pair)) =
            let more : suc (suc (length (pairs_in model (quiet_front es)))) ≡ suc (length es) = sym (ap (λ (o : Option Pair). suc (length (option_to_list o ++ pairs_in model (quiet_front es)))) pair) ∙ whole in (
              inl (record { columns = columns; compares = compares; at = at; there = there; quiet = is }),
              rest (one_less (suc (length (pairs_in model (quiet_front es)))) (length es) more)
                  (sym (ap (λ (o : Option Questioned). option_or (option_and_then (asked_of_question model) o) (first_question model (quiet_front es))) (asks_none (one_kind e))) ∙ asks),
            )
          where
            asks_none : (compared e ≡ None) ⊎ (questioned e ≡ None) → questioned e ≡ None
            asks_none (inl none) = let both : ◌≡◌ {A = Option (List ℕ × List ℕ)} (Some columns) None = sym compares ∙ none in absurd cc
            asks_none (inr none) = none
        paired (inr none) =
            let same : suc (length (pairs_in model (quiet_front es))) ≡ suc (length es) = sym (ap (λ (o : Option Pair). suc (length (option_to_list o ++ pairs_in model (quiet_front es)))) none) ∙ whole in
            let others : AllByRecursion (IsCompared model) es = all_compared model es (one_less (length (pairs_in model (quiet_front es))) (length es) same) in
            let own : option_or (option_and_then (asked_of_question model) (questioned e)) None ≡ Some asked =
            sym (ap (λ (o : Option Asked). option_or (option_and_then (asked_of_question model) (questioned e)) o) (no_question model es others)) ∙ asks in
            (inr (question_there model e asked is (alone (option_and_then (asked_of_question model) (questioned e)) own)), each_left es others)
          where
            alone : (o : Option Asked) → option_or o None ≡ Some asked → o ≡ Some asked
            alone (Some one) is = is
            alone None is = absurd cc

            each_left : (gs : List Expression) → AllByRecursion (IsCompared model) gs → AllByRecursion (IsPlain model (Some asked)) gs
            each_left [] are = tt
            each_left (g ∷ gs) are = (inl are.0, each_left gs are.1)

-- the count tells that all parts are of the two kinds
plain_parts : (model : ModelParts) (asked : Option Asked) (es : List Expression) → are_plain (length (pairs_in model (quiet_front es))) asked (length es) ≡ true → first_question model (quiet_front es) ≡ asked → AllByRecursion (IsPlain model asked) es
plain_parts model None es are first = all_compared model es (eqb-true (length (pairs_in model (quiet_front es))) (length es) are)
plain_parts model (Some asked) es are first =
    let both = and_parts (nat_lt (length (pairs_in model (quiet_front es))) (length es)) ((length es - length (pairs_in model (quiet_front es))) == 1) are in
    let less = ltb-true (length (pairs_in model (quiet_front es))) (length es) both.0 in
    let one = eqb-true (length es - length (pairs_in model (quiet_front es))) 1 both.1 in
    all_but_one model asked es (omega (arith, less, one)) first

plain_quiet : (model : ModelParts) (asked : Option Asked) (e : Expression) → IsPlain model asked e → is_quiet e ≡ true
plain_quiet model None e is = is.quiet
plain_quiet model (Some asked) e (inl is) = is.quiet
plain_quiet model (Some asked) e (inr is) = is.quiet

-- they all stand in front of the first that may fail
front_whole : (model : ModelParts) (asked : Option Asked) (es : List Expression) → AllByRecursion (IsPlain model asked) es → quiet_front es ≡ es
front_whole model asked [] are = refl
front_whole model asked (e ∷ es) are = front_quiet e es (plain_quiet model asked e are.0) ∙ ap (λ (l : List Expression). e ∷ l) (front_whole model asked es are.1)

-- ---- what the parts name is declared

asked_declared : (model : ModelParts) (e : Expression) (column : List ℕ) → asked_column e ≡ Some column → are_declared model (uses e) ≡ true → list_any (bytes_eq column) model.request ≡ true
asked_declared model (request at own []) column is declared = let same : own ≡ column = cc in subst (λ (c : List ℕ). list_any (bytes_eq c) model.request ≡ true) same (declared_column model at own declared)
asked_declared model (request at own (name ∷ path)) column is declared = absurd cc
asked_declared model _ column is declared = absurd cc

compared_declared : (model : ModelParts) (e : Expression) (columns : List ℕ × List ℕ) → compared e ≡ Some columns → are_declared model (uses e) ≡ true → list_any (bytes_eq columns.0) model.request ≡ true
compared_declared model (binary at op.Equal e f) columns is declared = by (either (both_columns e f) (both_columns f e) columns is) (declared_parts model (uses e) (uses f) declared)
  where
    by : (both_columns e f ≡ Some columns) ⊎ (both_columns f e ≡ Some columns) → (are_declared model (uses e) ≡ true) × (are_declared model (uses f) ≡ true) → list_any (bytes_eq columns.0) model.request ≡ true
    by (inl one) are = asked_declared model e columns.0 (both_are (asked_column e) (policy_column f) columns.0 columns.1 one).0 are.0
    by (inr one) are = asked_declared model f columns.0 (both_are (asked_column f) (policy_column e) columns.0 columns.1 one).0 are.1
compared_declared model _ columns is declared = absurd cc

each_both : {X : Type 0} (P : X → Type 0) (xs ys : List X) → AllByRecursion P xs → AllByRecursion P ys → AllByRecursion P (xs ++ ys)
each_both P [] ys one other = other
each_both P (x ∷ xs) ys one other = (one.0, each_both P xs ys one.1 other)

-- the uses of each part are declared
named_each : (model : ModelParts) (e : Expression) → are_declared model (uses e) ≡ true → AllByRecursion (λ (part : Expression). are_declared model (uses part) ≡ true) (conjuncts e)
named_each model (binary at op.And e g) declared =
    let named = declared_parts model (uses e) (uses g) declared in
    each_both (λ (part : Expression). are_declared model (uses part) ≡ true) (conjuncts e) (conjuncts g) (named_each model e named.0) (named_each model g named.1)
named_each model e declared = (declared, tt)

-- ---- what the matcher comes to where all parts hold

-- the request's text in a column is that of the row in another
abbrev Equals : Case → Expression → Type 0
Equals case e = (columns : List ℕ × List ℕ) × (compared e ≡ Some columns) × (t : List ℕ) × (asked_value case columns.0 ≡ Some (datums.text t)) × (t ≡ row_text case columns.1)

-- so it is, or the name that is asked about has the role
abbrev Holds : Case → Expression → Type 0
Holds case e = Equals case e ⊎ ((is : Questioned) × (questioned e ≡ Some is) × Linked case is)

same_data : (d : Datum) → datum_eq d d ≡ true
same_data d = (datum_eq-Decides d d).1 refl

equal_comes : (case : Case) (at : ℕ) (e f : Expression) (asked column t : List ℕ) → asked_column e ≡ Some asked → policy_column f ≡ Some column → asked_value case asked ≡ Some (datums.text t) → t ≡ row_text case column
    → (r : Evaluation) → ComesTo case (binary at op.Equal e f) r → r ≡ Ok (datums.truth true)
equal_comes case at e f asked column t is field value same r comes =
    equality_comes case at e f (datums.text t) (datums.text (row_text case column)) (column_comes case e asked (datums.text t) is value) (field_comes case f column field) r comes
    ∙ ap (λ (l : List ℕ). Ok (datums.truth (datum_eq (datums.text t) (datums.text l)))) (sym same)
    ∙ ap (λ (b : Bool). Ok (datums.truth b)) (same_data (datums.text t))

equal_comes_back : (case : Case) (at : ℕ) (e f : Expression) (asked column t : List ℕ) → asked_column f ≡ Some asked → policy_column e ≡ Some column → asked_value case asked ≡ Some (datums.text t) → t ≡ row_text case column
    → (r : Evaluation) → ComesTo case (binary at op.Equal e f) r → r ≡ Ok (datums.truth true)
equal_comes_back case at e f asked column t is field value same r comes =
    equality_comes case at e f (datums.text (row_text case column)) (datums.text t) (field_comes case e column field) (column_comes case f asked (datums.text t) is value) r comes
    ∙ ap (λ (l : List ℕ). Ok (datums.truth (datum_eq (datums.text l) (datums.text t)))) (sym same)
    ∙ ap (λ (b : Bool). Ok (datums.truth b)) (same_data (datums.text t))

equals_true : (case : Case) (e : Expression) → Equals case e → (r : Evaluation) → ComesTo case e r → r ≡ Ok (datums.truth true)
equals_true case (binary at op.Equal e f) (columns, is, t, value, same) r comes = by (either (both_columns e f) (both_columns f e) columns is)
  where
    by : (both_columns e f ≡ Some columns) ⊎ (both_columns f e ≡ Some columns) → r ≡ Ok (datums.truth true)
    by (inl one) = let are = both_are (asked_column e) (policy_column f) columns.0 columns.1 one in equal_comes case at e f columns.0 columns.1 t are.0 are.1 value same r comes
    by (inr one) = let are = both_are (asked_column f) (policy_column e) columns.0 columns.1 one in equal_comes_back case at e f columns.0 columns.1 t are.0 are.1 value same r comes
equals_true case _ (columns, is, t, value, same) r comes = absurd cc

one_true : (case : Case) (e : Expression) → Holds case e → (r : Evaluation) → ComesTo case e r → r ≡ Ok (datums.truth true)
one_true case e (inl equals) r comes = equals_true case e equals r comes
one_true case e (inr (is, asks, linked)) r comes = linked_comes case e is asks linked r comes

all_true : (case : Case) (e : Expression) → AllByRecursion (Holds case) (conjuncts e) → (r : Evaluation) → ComesTo case e r → r ≡ Ok (datums.truth true)
all_true case (binary at op.And e g) hold r (x, comes, after) =
    let parts = each_parts (Holds case) (conjuncts e) (conjuncts g) hold in
    let next : (y : Evaluation) × ComesTo case g y × (r ≡ answers.then y (joined at op.And (datums.truth true))) = side_is x (datums.truth true) (Behind case at g) r (all_true case e parts.0 x comes) after in
    right_is at next.0 r true next.2 (all_true case g parts.1 next.0 next.1)
all_true case e hold r comes = one_true case e hold.0 r comes

holds_for : (case : Case) (e : Expression) → AllByRecursion (Holds case) (conjuncts e) → (t : Result Bool Fault) × TruthIs case e t → TruthIs case e (Ok true)
holds_for case e hold (t, (x, comes, is)) = (x, comes, sym (ap (λ (a : Evaluation). answers.then a (truth_at (place e))) (all_true case e hold x comes)))

-- ---- a row and one part

module _ (case : Case) (fields : Fields) (row : case.row ≡ Some fields) (has : HasValues case) where
  compared_seen : (e : Expression) (one : IsCompared case.model e) → row_text case one.columns.1 ≡ field_at fields one.at
  compared_seen e one = field_in case fields row one.columns.1 one.at one.there

  equals : (e : Expression) (one : IsCompared case.model e) → has_same_text case.request fields (own_pair case.model one.columns one.at) ≡ true → Equals case e
  equals e one same = by (asked_value case one.columns.0) refl same
    where
      by : (o : Option Datum) → asked_value case one.columns.0 ≡ o → is_text (option_and_then text_of o) (field_at fields one.at) ≡ true → Equals case e
      by (Some (datums.text t)) is same = (one.columns, one.compares, t, is, (bytes_eq-Decides t (field_at fields one.at)).0 same ∙ sym (compared_seen e one))
      by (Some _) is same = absurd (true≢false (sym same))
      by None is same = absurd (true≢false (sym same))

  excludes : (e : Expression) (one : IsCompared case.model e) → are_declared case.model (uses e) ≡ true → has_same_text case.request fields (own_pair case.model one.columns one.at) ≡ false → Excludes case e
  excludes e one declared other =
      let value = has one.columns.0 (compared_declared case.model e one.columns one.compares declared) in
      by_columns one.columns one.compares (
        value.0,
        value.1,
        λ same.
            true≢false (sym (ap (λ (o : Option Datum). is_text (option_and_then text_of o) (field_at fields one.at)) (value.1 ∙ ap (λ (d : Datum). Some d) same) ∙ (bytes_eq-Decides (row_text case one.columns.1) (field_at fields one.at)).1 (compared_seen e one)) ∙ other),
      )

  domain_in : (o : Option (List ℕ)) (domain : Option (List ℕ)) → IsDomainOf case.request (option_map (place_of case.model.request) o) domain → IsDomainIn case o domain
  domain_in None domain is = is
  domain_in (Some column) domain is = is

  linked_there : (e : Expression) (asked : Asked) (one : IsQuestion case.model asked e) → IsLinkedAt case fields asked → Linked case one.is
  linked_there e asked one linked = by (subst (IsLinkedAt case fields) (sym one.own) linked)
    where
      seen : row_text case one.is.column ≡ field_at fields one.at
      seen = field_in case fields row one.is.column one.at one.there

      by : IsLinkedAt case fields (own_question case.model one.is one.at) → Linked case one.is
      by (name, named, domain, domain_is, links) = (name, named, domain, domain_in one.is.domain domain domain_is, subst (λ (y : List ℕ). IsLinkedBy case.shapes case.policy one.is.number name y domain) (sym seen) links)

  not_linked_there : (e : Expression) (asked : Asked) (one : IsQuestion case.model asked e) → NotLinkedAt case fields asked → NotLinked case one.is
  not_linked_there e asked one linked = by (subst (NotLinkedAt case fields) (sym one.own) linked)
    where
      seen : row_text case one.is.column ≡ field_at fields one.at
      seen = field_in case fields row one.is.column one.at one.there

      by : NotLinkedAt case fields (own_question case.model one.is one.at) → NotLinked case one.is
      by (name, named, domain, domain_is, differs) =
          (name, named, domain, domain_in one.is.domain domain domain_is, λ links. differs (subst (λ (y : List ℕ). IsLinkedBy case.shapes case.policy one.is.number name y domain) seen links))

  -- ---- a row and all parts

  pair_is : (e : Expression) (one : IsCompared case.model e) → option_and_then (pair_of case.model) (compared e) ≡ Some (own_pair case.model one.columns one.at)
  pair_is e one =
      ap (λ (o : Option (List ℕ × List ℕ)). option_and_then (pair_of case.model) o) one.compares ∙ ap (λ (p : Option ℕ). option_map (λ (at : ℕ). own_pair case.model one.columns at) p) one.there

  no_pair : (e : Expression) (asked : Asked) (one : IsQuestion case.model asked e) → option_and_then (pair_of case.model) (compared e) ≡ None
  no_pair e asked one = ap (λ (o : Option (List ℕ × List ℕ)). option_and_then (pair_of case.model) o) (compares_none (one_kind e))
    where
      compares_none : (compared e ≡ None) ⊎ (questioned e ≡ None) → compared e ≡ None
      compares_none (inl none) = none
      compares_none (inr none) = let both : ◌≡◌ {A = Option Questioned} (Some one.is) None = sym one.asks ∙ none in absurd cc

  -- all hold
  all_hold : (asked : Option Asked) (es : List Expression) → AllByRecursion (IsPlain case.model asked) es → list_all (has_same_text case.request fields) (pairs_in case.model es) ≡ true → IsAnswered case fields asked true → AllByRecursion (Holds case) es
  all_hold asked [] are all told = tt
  all_hold None (e ∷ es) (one, are) all told =
      let parts = and_parts (has_same_text case.request fields (own_pair case.model one.columns one.at)) (list_all (has_same_text case.request fields) (pairs_in case.model es))
      (sym (ap (λ (o : Option Pair). list_all (has_same_text case.request fields) (option_to_list o ++ pairs_in case.model es)) (pair_is e one)) ∙ all) in
      (inl (equals e one parts.0), all_hold None es are parts.1 told)
  all_hold (Some asked) (e ∷ es) (inl one, are) all told =
      let parts = and_parts (has_same_text case.request fields (own_pair case.model one.columns one.at)) (list_all (has_same_text case.request fields) (pairs_in case.model es))
      (sym (ap (λ (o : Option Pair). list_all (has_same_text case.request fields) (option_to_list o ++ pairs_in case.model es)) (pair_is e one)) ∙ all) in
      (inl (equals e one parts.0), all_hold (Some asked) es are parts.1 told)
  all_hold (Some asked) (e ∷ es) (inr one, are) all told = (
    inr (one.is, one.asks, linked_there e asked one told),
    all_hold (Some asked) es are (sym (ap (λ (o : Option Pair). list_all (has_same_text case.request fields) (option_to_list o ++ pairs_in case.model es)) (no_pair e asked one)) ∙ all) told,
  )

  -- some pair differs
  split_pair : (e : Expression) (es : List Expression) (one : IsCompared case.model e) → are_declared case.model (uses e) ≡ true → list_all (has_same_text case.request fields) (pairs_in case.model (e ∷ es)) ≡ false
      → (list_all (has_same_text case.request fields) (pairs_in case.model es) ≡ false → SomeExcludes case es) → SomeExcludes case (e ∷ es)
  split_pair e es one declared other rest =
      by (has_same_text case.request fields (own_pair case.model one.columns one.at)) refl (sym (ap (λ (o : Option Pair). list_all (has_same_text case.request fields) (option_to_list o ++ pairs_in case.model es)) (pair_is e one)) ∙ other)
    where
      by : (b : Bool) → has_same_text case.request fields (own_pair case.model one.columns one.at) ≡ b → (b && list_all (has_same_text case.request fields) (pairs_in case.model es)) ≡ false → SomeExcludes case (e ∷ es)
      by true is later = inr (rest later)
      by false is later = inl (excludes e one declared is)

  some_differ : (asked : Option Asked) (es : List Expression) → AllByRecursion (IsPlain case.model asked) es → AllByRecursion (λ (part : Expression). are_declared case.model (uses part) ≡ true) es
      → list_all (has_same_text case.request fields) (pairs_in case.model es) ≡ false → SomeExcludes case es
  some_differ asked [] are named other = absurd (true≢false other)
  some_differ None (e ∷ es) (one, are) (here, named) other = split_pair e es one here other (some_differ None es are named)
  some_differ (Some asked) (e ∷ es) (inl one, are) (here, named) other = split_pair e es one here other (some_differ (Some asked) es are named)
  some_differ (Some asked) (e ∷ es) (inr one, are) (here, named) other =
      inr (some_differ (Some asked) es are named (sym (ap (λ (o : Option Pair). list_all (has_same_text case.request fields) (option_to_list o ++ pairs_in case.model es)) (no_pair e asked one)) ∙ other))

-- a link that is told answers the question
pub answered : (case : Case) (fields : Fields) (is : Asked) (name : List ℕ) (domain : Option (List ℕ)) → IsTextAt case.request is.request name → IsDomainOf case.request is.domain domain → (role : List ℕ) → role ≡ field_at fields is.policy
    → (told : Bool) → IsTrue told ↔ IsLinkedBy case.shapes case.policy is.number name role domain → IsAnswered case fields (Some is) told
answered case fields is name domain named domain_is role there true whether = (name, named, domain, domain_is, subst (λ (y : List ℕ). IsLinkedBy case.shapes case.policy is.number name y domain) there (whether.0 refl))
answered case fields is name domain named domain_is role there false whether =
    (name, named, domain, domain_is, λ links. true≢false (sym (whether.1 (subst (λ (y : List ℕ). IsLinkedBy case.shapes case.policy is.number name y domain) (sym there) links))))

-- what a row says is whether the matcher holds for it
pub decides_row : (asking : Asking) (parts : PlainParts) (fields : Fields) (row : Option Fields) (told : Option Bool) → row ≡ Some fields → DecideAlone asking parts → IfSome told (IsToldBy (case_in asking) fields parts)
    → IfSome told (λ (truth : Bool). (refused : Option (ℕ × List ℕ)) → TruthIs (where_refused (at_row (case_in asking) row) refused) asking.model.now.matcher (Ok truth))
decides_row asking parts fields row None same decide told = tt
decides_row asking parts fields row (Some truth) same decide told = λ refused.
    subst (λ (r : Option Fields). TruthIs (where_refused (at_row (case_in asking) r) refused) asking.model.now.matcher (Ok truth)) (sym same) (decide fields refused truth told)

-- what a row says where it has the texts, or has them not
pub told_texts : (case : Case) (fields : Fields) (parts : PlainParts) → have_same_texts case.request fields parts.pairs.now ≡ true → parts.question ≡ None → IsToldBy case fields parts true
told_texts case fields parts same none = (same, subst (λ (o : Option AskedColumns). IsAnswered case fields (option_map asked_seen o) true) (sym none) tt)

pub told_link : (case : Case) (fields : Fields) (parts : PlainParts) (question : AskedColumns) (told : Option Bool) → have_same_texts case.request fields parts.pairs.now ≡ true → parts.question ≡ Some question → IfSome told (IsAnswered case fields (Some (asked_seen question))) → IfSome told (IsToldBy case fields parts)
told_link case fields parts question None same is told = tt
told_link case fields parts question (Some true) same is told = (same, subst (λ (o : Option AskedColumns). IsAnswered case fields (option_map asked_seen o) true) (sym is) told)
told_link case fields parts question (Some false) same is told = inr (subst (λ (o : Option AskedColumns). IsAnswered case fields (option_map asked_seen o) false) (sym is) told)

-- one of the parts is the question
question_in : (model : ModelParts) (asked : Asked) (es : List Expression) → AllByRecursion (IsPlain model (Some asked)) es → first_question model es ≡ Some asked → (case : Case) → ((e : Expression) → IsQuestion model asked e → Excludes case e) → SomeExcludes case es
question_in model asked [] are first case excluded = absurd cc
question_in model asked (e ∷ es) (inr one, are) first case excluded = inl (excluded e one)
question_in model asked (e ∷ es) (inl one, are) first case excluded =
    inr (question_in model asked es are (sym (ap (λ (o : Option Questioned). option_or (option_and_then (asked_of_question model) o) (first_question model es)) (asks_none (one_kind e))) ∙ first) case excluded)
  where
    asks_none : (compared e ≡ None) ⊎ (questioned e ≡ None) → questioned e ≡ None
    asks_none (inl none) = let both : ◌≡◌ {A = Option (List ℕ × List ℕ)} (Some one.columns) None = sym one.compares ∙ none in absurd cc
    asks_none (inr none) = none

-- ---- the rows of a request

same_tests : (values : List Datum) (fields : Fields) (pairs : List EqualColumns) → have_same_texts values fields pairs ≡ list_all (has_same_text values fields) (map pair_seen pairs)
same_tests values fields [] = refl
same_tests values fields (pair ∷ pairs) = ap (λ (b : Bool). has_same_text values fields (pair_seen pair) && b) (same_tests values fields pairs)

-- where the matcher has no other parts, what a row says to them is whether it holds
pub row_decides : (model : ModelParts) (state : State) (values : List Value) (kept : KeptPlan) (is : IsPlan model kept) (able : serves model state.shapes values kept ≡ true) (law : (case : Case) (e : Expression) → (t : Result Bool Fault) × TruthIs case e t) → kept.plain ≡ true
    → (parts : PlainParts) → parts.pairs.now ≡ kept.pairs.items → parts.question ≡ kept.question
    → (fields : Fields) (refused : Option (ℕ × List ℕ)) (truth : Bool) → IsToldBy (case_of model state.shapes (tables state) (map datum values)) fields parts truth
    → TruthIs (where_refused (at_row (case_of model state.shapes (tables state) (map datum values)) (Some fields)) refused) model.matcher (Ok truth)
row_decides model state values kept is able law plain parts same_pairs same_question fields refused = by
  where
    case : Case
    case = where_refused (at_row (case_of model state.shapes (tables state) (map datum values)) (Some fields)) refused

    has : HasValues case
    has = has_values model state.shapes state values kept is able refl law

    named : are_declared model (uses model.matcher) ≡ true
    named = all_declared model (uses model.matcher) is.declared

    plain_are : are_plain (length (pairs_in model (quiet_front (conjuncts model.matcher)))) (option_map asked_seen kept.question) (length (conjuncts model.matcher)) ≡ true
    plain_are = ap (λ (ps : List Pair). are_plain (length ps) (option_map asked_seen kept.question) (length (conjuncts model.matcher))) (sym is.pairs) ∙ sym is.plain ∙ plain

    kinds : AllByRecursion (IsPlain model (option_map asked_seen kept.question)) (conjuncts model.matcher)
    kinds = plain_parts model (option_map asked_seen kept.question) (conjuncts model.matcher) plain_are (sym is.question)

    whole : quiet_front (conjuncts model.matcher) ≡ conjuncts model.matcher
    whole = front_whole model (option_map asked_seen kept.question) (conjuncts model.matcher) kinds

    tests : have_same_texts (map datum values) fields parts.pairs.now ≡ list_all (has_same_text (map datum values) fields) (pairs_in model (conjuncts model.matcher))
    tests =
        ap (have_same_texts (map datum values) fields) same_pairs
        ∙ same_tests (map datum values) fields kept.pairs.items ∙ ap (list_all (has_same_text (map datum values) fields)) (is.pairs ∙ ap (pairs_in model) whole)

    question : option_map asked_seen parts.question ≡ option_map asked_seen kept.question
    question = ap (option_map asked_seen) same_question

    denied : SomeExcludes case (conjuncts model.matcher) → TruthIs case model.matcher (Ok false)
    denied some =
        left_out case model.matcher has named (has_texts model state.shapes state values kept is able refl law) (subst (SomeExcludes case) (sym whole) some) (law case model.matcher)

    not_asked : (o : Option Asked) → option_map asked_seen kept.question ≡ o → IsAnswered case fields o false → TruthIs case model.matcher (Ok false)
    not_asked None o-is told = absurd told
    not_asked (Some one) o-is told =
        denied (question_in model one (conjuncts model.matcher) (subst (λ (o : Option Asked). AllByRecursion (IsPlain model o) (conjuncts model.matcher)) o-is kinds)
        (ap (first_question model) (sym whole) ∙ sym is.question ∙ o-is) case (λ e question. by_role question.is question.asks (not_linked_there case fields refl has e one question told)))

    by : (truth : Bool) → IsToldBy (case_of model state.shapes (tables state) (map datum values)) fields parts truth → TruthIs case model.matcher (Ok truth)
    by true (same, told) =
        holds_for case model.matcher
        (all_hold case fields refl has (option_map asked_seen kept.question) (conjuncts model.matcher) kinds (sym tests ∙ same) (subst (λ (o : Option Asked). IsAnswered case fields o true) question told)) (law case model.matcher)
    by false (inl other) = denied (some_differ case fields refl has (option_map asked_seen kept.question) (conjuncts model.matcher) kinds (named_each model model.matcher named) (sym tests ∙ other))
    by false (inr told) = not_asked (option_map asked_seen kept.question) refl (subst (λ (o : Option Asked). IsAnswered case fields o false) question told)
