-- Every text is a model or has a first fault.
use Rattle.std.proofs.Common.{◌≡◌, ℕ, suc, ◌<◌, ◌≤◌, Bool, true, false, leb, List, [], ◌∷◌, length, inl, inr, refl, arith, leb-true, leb-false}
use Rattle.std.specs.Prelude.{◌⊎◌, All, IsTrue, IsUtf8, Option, Some, None, bytes_eq, codes}
use Rattle.std.specs.List.{AllByRecursion}
use Rattle.std.proofs.lemmas.List.Elements.{All-from_recursion, recursion_from_All}
use Rattle.std.proofs.lemmas.List.Kept.{AllPairs-cons}
use Rattle.std.proofs.lemmas.Slice.Eq.{bytes_eq-Decides}
use Rattle.effect_fold.specs.declared.effect.Effect.{Effect}
use Rattle.matcher_read.specs.Expression.{Expression}
use Rattle.matcher_read.specs.Faults.{IsFault}
use Rattle.matcher_read.specs.Matcher.{IsMatcher}
use Rattle.matcher_read.specs.declared.fault.MatcherFault.{MatcherFault}
use Rattle.model_conf.proofs.FaultLemmas.{missing_e, missing_m, missing_p, missing_r}
use Rattle.model_conf.proofs.TotalLemmas.{AreStatements-some}
use Rattle.model_conf.specs.Columns.{AreColumns, AreDistinct, AreNames, columns_in}
use Rattle.model_conf.specs.Effects.{model_effect}
use Rattle.model_conf.specs.Faults.{IsEntryFault, IsModelFault, at_line, behind_lines, fault_of, matcher, missing, not_utf8, policy_columns, request_columns, role_shape, too_long, undeclared, unknown_effect}
use Rattle.model_conf.specs.ModelText.{HasColumns, HasEffect, HasValues, IsModel, IsText, ModelParts, SayModel, Values, most_bytes, parts_of}
use Rattle.model_conf.specs.Relations.{first_bad_shape, relations_of, value_of}
use Rattle.model_conf.specs.Sections.{Entry, entries_of, first_fault}
use Rattle.model_conf.specs.Statements.{Statement}
use Rattle.model_conf.specs.Uses.{Use, first_undeclared, uses}
use Rattle.model_conf.specs.declared.fault.ModelFault.{ModelFault}
use Rattle.text_parts.specs.Names.{is_identifier}
use Rattle.text_parts.specs.Numbered.{numbered, text_lines}

-- a fact is decided
abbrev Decided : Type 0 → Type 0
Decided P = P ⊎ (¬ P)

both : {P Q : Type 0} → Decided P → Decided Q → Decided (P × Q)
both (inl p) (inl q) = inl (p, q)
both (inl p) (inr no-q) = inr (λ pq. no-q pq.1)
both (inr no-p) q = inr (λ pq. no-p pq.0)

as_fact : {P Q : Type 0} → (P → Q) → (Q → P) → Decided P → Decided Q
as_fact there back (inl p) = inl (there p)
as_fact there back (inr no-p) = inr (λ q. no-p (back q))

at_most : (a b : ℕ) → Decided (a ≤ b)
at_most a b = by (leb a b) refl
  where
    by : (test : Bool) → leb a b ≡ test → Decided (a ≤ b)
    by true e = inl (leb-true a b e)
    by false e = inr (λ within. let above : b < a = leb-false a b e in absurd (omega (arith, within, above)))

tested : (test : Bool) → Decided (IsTrue test)
tested true = inl refl
tested false = inr (λ no. absurd cc)

names_decided : (names : List (List ℕ)) → Decided (AreNames names)
names_decided names = as_fact (All-from_recursion (λ (name : List ℕ). IsTrue (is_identifier name)) names) (recursion_from_All (λ (name : List ℕ). IsTrue (is_identifier name)) names) (by names)
  where
    by : (names : List (List ℕ)) → Decided (AllByRecursion (λ (name : List ℕ). IsTrue (is_identifier name)) names)
    by [] = inl tt
    by (name ∷ others) = both (tested (is_identifier name)) (by others)

others_decided : (name : List ℕ) (names : List (List ℕ)) → Decided (All (λ (other : List ℕ). name ≡ other → ⊥) names)
others_decided name names = as_fact (All-from_recursion (λ (other : List ℕ). name ≡ other → ⊥) names) (recursion_from_All (λ (other : List ℕ). name ≡ other → ⊥) names) (by names)
  where
    one : (other : List ℕ) (test : Bool) → bytes_eq name other ≡ test → Decided (name ≡ other → ⊥)
    one other true e = inr (λ differs. differs ((bytes_eq-Decides name other).0 e))
    one other false e = inl (λ same. let equal : bytes_eq name other ≡ true = (bytes_eq-Decides name other).1 same in absurd cc)

    by : (names : List (List ℕ)) → Decided (AllByRecursion (λ (other : List ℕ). name ≡ other → ⊥) names)
    by [] = inl tt
    by (other ∷ others) = both (one other (bytes_eq name other) refl) (by others)

distinct_decided : (names : List (List ℕ)) → Decided (AreDistinct names)
distinct_decided [] = inl (λ i j d above within. absurd (omega (arith, within)))
distinct_decided (name ∷ names) =
    as_fact (λ parts. AllPairs-cons (λ (first second : List ℕ). first ≡ second → ⊥) name names parts.0 parts.1)
    (λ pairs. (λ j d within. pairs 0 (suc j) d (omega arith) (omega (arith, within)), λ i j d above within. pairs (suc i) (suc j) d (omega (arith, above)) (omega (arith, within))))
    (both (others_decided name names) (distinct_decided names))

columns_decided : (names : List (List ℕ)) → Decided (AreColumns names)
columns_decided names =
    as_fact (λ parts. record { some = parts.0.0; few = parts.0.1; named = parts.1.0; distinct = parts.1.1 }) (λ columns. ((columns.some, columns.few), (columns.named, columns.distinct)))
    (both (both (at_most 1 (length names)) (at_most (length names) 32)) (both (names_decided names) (distinct_decided names)))

-- what is known of matchers
pub record HasMatchers : Type 0 where
  pub matcher : (text : List ℕ) → ((e : Expression) × IsMatcher text e) ⊎ ((f : MatcherFault) × IsFault text f)
  pub utf8 : (bytes : List ℕ) → Decided (IsUtf8 bytes)

-- entries say a model or have a fault
abbrev SomeOf : List Entry → Type 0
SomeOf entries = ((model : ModelParts) × SayModel entries model) ⊎ ((f : ModelFault) × IsEntryFault entries f)

module _ (law : HasMatchers) (entries : List Entry) where
  by_uses : (values : Values) (effect : Effect) (e : Expression) → HasEffect entries values effect → IsMatcher values.matcher e → (first : Option Use)
      → first_undeclared (columns_in values.request) (columns_in values.policy) (relations_of entries) (uses e) ≡ first → SomeOf entries
  by_uses values effect e has is None none = inl (
    parts_of (columns_in values.request) (columns_in values.policy) (relations_of entries) effect values.matcher e,
    record {
      values = values;
      has = has;
      request = refl;
      policy = refl;
      relations = refl;
      matcher_text = refl;
      matcher = is;
      declared = none;
    },
  )
  by_uses values effect e has is (Some use_) some = inr (fault_of use_, undeclared values effect e use_ has is some refl)

  by_matcher : (values : Values) (effect : Effect) → HasEffect entries values effect → ((e : Expression) × IsMatcher values.matcher e) ⊎ ((f : MatcherFault) × IsFault values.matcher f) → SomeOf entries
  by_matcher values effect has (inl is) = by_uses values effect is.0 has is.1 (first_undeclared (columns_in values.request) (columns_in values.policy) (relations_of entries) (uses is.0)) refl
  by_matcher values effect has (inr bad) = inr (_, matcher values effect has bad.1)

  by_effect : (values : Values) → HasColumns entries values → first_bad_shape entries ≡ None → (effect : Option Effect) → model_effect (relations_of entries) (columns_in values.policy) values.effect ≡ effect → SomeOf entries
  by_effect values has shapes (Some effect) is = by_matcher values effect (record { has = has; shapes = shapes; effect_is = is }) (law.matcher values.matcher)
  by_effect values has shapes None none = inr (_, unknown_effect values has shapes none)

  by_shapes : (values : Values) → HasColumns entries values → (bad : Option ℕ) → first_bad_shape entries ≡ bad → SomeOf entries
  by_shapes values has (Some number) is = inr (_, role_shape values has is)
  by_shapes values has None none = by_effect values has none (model_effect (relations_of entries) (columns_in values.policy) values.effect) refl

  by_policy : (values : Values) → HasValues entries values → AreColumns (columns_in values.request) → Decided (AreColumns (columns_in values.policy)) → SomeOf entries
  by_policy values has request (inl policy) = by_shapes values (record { has = has; request = request; policy = policy }) (first_bad_shape entries) refl
  by_policy values has request (inr none) = inr (_, policy_columns values has request none)

  by_request : (values : Values) → HasValues entries values → Decided (AreColumns (columns_in values.request)) → SomeOf entries
  by_request values has (inl request) = by_policy values has request (columns_decided (columns_in values.policy))
  by_request values has (inr none) = inr (_, request_columns values has none)

  by_keys : (r p e m : Option (List ℕ)) → value_of entries (codes "r") ≡ r → value_of entries (codes "p") ≡ p → value_of entries (codes "e") ≡ e → value_of entries (codes "m") ≡ m → SomeOf entries
  by_keys None p e m r-is p-is e-is m-is = inr (_, missing (missing_r entries r-is))
  by_keys (Some r) None e m r-is p-is e-is m-is = inr (_, missing (missing_p entries r r-is p-is))
  by_keys (Some r) (Some p) None m r-is p-is e-is m-is = inr (_, missing (missing_e entries r p r-is p-is e-is))
  by_keys (Some r) (Some p) (Some e) None r-is p-is e-is m-is = inr (_, missing (missing_m entries r p e r-is p-is e-is m-is))
  by_keys (Some r) (Some p) (Some e) (Some m) r-is p-is e-is m-is =
      let values : Values = record { request = r; policy = p; effect = e; matcher = m } in
      by_request values (record { request = r-is; policy = p-is; effect = e-is; matcher = m-is }) (columns_decided (columns_in r))

  entries_some : SomeOf entries
  entries_some = by_keys (value_of entries (codes "r")) (value_of entries (codes "p")) (value_of entries (codes "e")) (value_of entries (codes "m")) refl refl refl refl

-- a text says a model or has a fault
abbrev pub SomeModel : List ℕ → Type 0
SomeModel bytes = ((model : ModelParts) × IsModel bytes model) ⊎ ((f : ModelFault) × IsModelFault bytes f)

module _ (law : HasMatchers) (bytes : List ℕ) where
  by_entries : (statements : List Statement) → IsText bytes statements → first_fault [] statements ≡ None → SomeOf (entries_of statements) → SomeModel bytes
  by_entries statements text fine (inl says) = inl (says.0, record { statements = statements; text = text; lines = fine; says = says.1 })
  by_entries statements text fine (inr bad) = inr (bad.0, behind_lines statements text fine bad.1)

  by_lines : (statements : List Statement) → IsText bytes statements → (first : Option ModelFault) → first_fault [] statements ≡ first → SomeModel bytes
  by_lines statements text (Some f) is = inr (f, at_line statements text is)
  by_lines statements text None fine = by_entries statements text fine (entries_some law (entries_of statements))

  by_text : Decided (length bytes ≤ most_bytes) → Decided (IsUtf8 bytes) → SomeModel bytes
  by_text (inr wide) utf8 = inr (_, too_long (above (leb (length bytes) most_bytes) refl))
    where
      above : (test : Bool) → leb (length bytes) most_bytes ≡ test → most_bytes < length bytes
      above true e = absurd (wide (leb-true (length bytes) most_bytes e))
      above false e = leb-false (length bytes) most_bytes e
  by_text (inl few) (inr none) = inr (_, not_utf8 few none)
  by_text (inl few) (inl utf8) =
      let said = AreStatements-some (numbered 1 (text_lines bytes)) in
      by_lines said.0 (record { few = few; utf8 = utf8; said = said.1 }) (first_fault [] said.0) refl

  pub some_model : SomeModel bytes
  some_model = by_text (at_most (length bytes) most_bytes) (law.utf8 bytes)
