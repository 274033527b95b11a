-- The rows that an index finds by a plan are all that matter.
use Rattle.std.proofs.Common.{◌≡◌, ℕ, zero, suc, ◌<◌, ◌≤◌, Bool, true, false, true≢false, List, [], ◌∷◌, length, map, Option, Some, Result, All, refl, sym, ap, subst, ◌∙◌}
use Rattle.std.specs.Prelude.{nat_eq, slice_get}
use Rattle.std.specs.List.{list_any}
use Rattle.std.specs.Option.{option_map_or}
use Rattle.std.proofs.lemmas.List.Elements.{All-head, All-tail}
use Rattle.effect_fold.specs.declared.fault.Fault.{Fault}
use Rattle.perm_value.specs.Seen.{datum}
use Rattle.perm_value.specs.declared.value.Value.{Value}
use Rattle.policy_index.specs.Found.{AddsSlots, ArePlacesOf, FindRows}
use Rattle.policy_index.specs.Indexed.{Indexed, IsIndexOf}
use Rattle.policy_index.specs.Keys.{KeyParts, agrees}
use Rattle.policy_index.proofs.CallerLemmas.{finds_rows}
use Rattle.policy_state.specs.States.{State, tables}
use Rattle.policy_table.specs.Slots.{AreSlots}
use Rattle.policy_table.specs.Tables.{Fields, rows}
use Rattle.matcher_read.specs.Expression.{Expression}
use Rattle.model_conf.specs.ModelText.{ModelParts}
use Rattle.matcher_meaning.specs.Cases.{Case}
use Rattle.matcher_meaning.specs.Comes.{TruthIs}
use Rattle.matcher_meaning.specs.Verdicts.{case_of}
use Rattle.decision.specs.Plans.{Pair, first_fitting, first_question, key_of, pairs_in, policy_places}
use Rattle.decision.specs.Helps.FoundRows.{AreTexts, FindsBy, SomeIsNoText, has_some_name}
use Rattle.decision.specs.Helps.LeftOut.{AreAllThatMatter, IsLeftOut}
use Rattle.decision.specs.Helps.KeptPlans.{IsPlan, asked_seen, fitting_seen, pair_seen, parts_of_plan, plan_seen, serves}
use Rattle.decision.specs.declared.found_rows.Gathered.TheVariants as gathered
use Rattle.decision.specs.declared.plan.By.{By}
use Rattle.decision.specs.declared.plan.By.TheVariants as by
use Rattle.decision.specs.declared.plan.KeptPlan.{KeptPlan}
use Rattle.decision.proofs.LookLemmas.{all_left_out, long_rows, pattern_left_out, roles_left_out, texts_left_out}
use Rattle.decision.proofs.PlanLemmas.{plan_pattern, plan_roles, plan_texts}

-- what holds of each row holds of the one at a place
each_there : (R : Fields → Type 0) (rows : List Fields) (place : ℕ) (fields : Fields) → All R rows → slice_get rows place ≡ Some fields → R fields
each_there R [] place fields all there = absurd cc
each_there R (row ∷ rows) zero fields all there = let same : row ≡ fields = cc in subst R same (All-head R row rows all)
each_there R (row ∷ rows) (suc place) fields all there = each_there R rows place fields (All-tail R row rows all) there

-- rows that do not pass the test of what is found are left out: the places that are found are all that matter
found_matter : (case : Case) (rows : List Fields) (test : Fields → Bool) (places : List ℕ) → FindRows test rows places → ((place : ℕ) (fields : Fields) → slice_get rows place ≡ Some fields → test fields ≡ false → IsLeftOut case fields) → AreAllThatMatter case rows places
found_matter case rows test places found out = record {
  rising = found.rising;
  within = found.within;
  others = λ place fields there other. found_or place fields there other (test fields) refl;
}
  where
    found_or : (place : ℕ) (fields : Fields) → slice_get rows place ≡ Some fields → list_any (nat_eq place) places ≡ false → (b : Bool) → test fields ≡ b → IsLeftOut case fields
    found_or place fields there other false passes = out place fields there passes
    found_or place fields there other true passes =
        absurd (true≢false (sym (found.each place (ap (λ (o : Option Fields). option_map_or test o false) there ∙ passes)) ∙ other))

-- slots that are found are those of rows
pub added_within : (test : Fields → Bool) (by_slot : List Fields) (found : List ℕ) → AddsSlots test by_slot [] found → All (λ (slot : ℕ). slot < length by_slot) found
added_within test by_slot found adds = subst (All (λ (slot : ℕ). slot < length by_slot)) (sym adds.behind) adds.within

module _ (model : ModelParts) (state : State) (values : List Value) (kept : KeptPlan) (is : IsPlan model kept) (able : serves model state.shapes values kept ≡ true)
    (law : (case : Case) (e : Expression) → (t : Result Bool Fault) × TruthIs case e t) where
  abbrev asked : Case
  asked = case_of model state.shapes (tables state) (map datum values)

  abbrev es : List Expression
  es = parts_of_plan model

  -- ---- a value that is no text

  nothing_by : (one : By) → kept.by ≡ one → FindsBy (map datum values) state (map pair_seen kept.pairs.items) one (record { key = kept.key; marks = []; spare = 0; lists = [] }) [] [] gathered.Nothing → (table : List Fields) → All (IsLeftOut asked) table
  nothing_by by.Texts e some table =
      let pairs = plan_texts (pairs_in model es) (map pair_seen kept.pairs.items) (first_fitting model es) (first_question model es) (is.plan ∙ ap (λ (b : By). Some (plan_seen kept.pairs.items b)) e) in
      all_left_out model state.shapes state values kept is able refl law table (subst (SomeIsNoText (map datum values)) (sym pairs) some)
  nothing_by (by.Pattern one) e some table =
      let plan = plan_pattern (pairs_in model es) (map pair_seen kept.pairs.items) (first_fitting model es) (fitting_seen one) (first_question model es) (is.plan ∙ ap (λ (b : By). Some (plan_seen kept.pairs.items b)) e) in
      all_left_out model state.shapes state values kept is able refl law table (subst (SomeIsNoText (map datum values)) (sym plan.0) some)
  nothing_by (by.Roles one) e some table = absurd some

  -- whatever index is asked
  pub nothing_left : (index : Indexed) (new : List ℕ) → FindsBy (map datum values) state (map pair_seen kept.pairs.items) kept.by index [] new gathered.Nothing → (table : List Fields) → All (IsLeftOut asked) table
  nothing_left index new some table = nothing_by kept.by refl (plain kept.by some) table
    where
      plain : (one : By) → FindsBy (map datum values) state (map pair_seen kept.pairs.items) one index [] new gathered.Nothing
          → FindsBy (map datum values) state (map pair_seen kept.pairs.items) one (record { key = kept.key; marks = []; spare = 0; lists = [] }) [] [] gathered.Nothing
      plain by.Texts some = some
      plain (by.Pattern one) some = some
      plain (by.Roles one) some = some

  -- ---- slots that are found

  module _ (index : Indexed) (by_slot table : List Fields) (found places : List ℕ) (key : index.key ≡ kept.key) (indexed : IsIndexOf index by_slot) (slots : AreSlots by_slot table) (placed : ArePlacesOf by_slot table found places)
      (columns : All (λ (fields : Fields). ◌≡◌ {A = Option ℕ} (Some state.shapes.columns) (Some (length fields))) table) where
    long : All (λ (fields : Fields). length model.policy ≤ length fields) table
    long = long_rows model state.shapes state values kept is able refl law table columns

    abbrev own_pairs : List Pair
    own_pairs = map pair_seen kept.pairs.items

    matter_by : (one : By) → kept.by ≡ one → FindsBy (map datum values) state own_pairs one index [] found gathered.Slots → AreAllThatMatter asked table places
    matter_by by.Texts e (texts, are, adds) =
        let pairs = plan_texts (pairs_in model es) own_pairs (first_fitting model es) (first_question model es) (is.plan ∙ ap (λ (b : By). Some (plan_seen kept.pairs.items b)) e) in
        let own = key ∙ is.key ∙ ap (λ (b : By). key_of (plan_seen kept.pairs.items b)) e in
        found_matter asked table (agrees index.key texts []) places (finds_rows (agrees index.key texts []) by_slot table found places slots (adds by_slot indexed) placed)
        (λ place fields there other. texts_left_out model state.shapes state values kept is able refl law index.key texts fields (each_there (λ (f : Fields). length model.policy ≤ length f) table place fields long there)
        (ap (λ (k : KeyParts). k.columns) own ∙ ap policy_places (sym pairs)) (ap (λ (k : KeyParts). k.pattern) own) (subst (λ (ps : List Pair). AreTexts (map datum values) ps texts) (sym pairs) are) other)
    matter_by (by.Pattern one) e (text, value, (texts, are, adds)) =
        let plan = plan_pattern (pairs_in model es) own_pairs (first_fitting model es) (fitting_seen one) (first_question model es) (is.plan ∙ ap (λ (b : By). Some (plan_seen kept.pairs.items b)) e) in
        let own = key ∙ is.key ∙ ap (λ (b : By). key_of (plan_seen kept.pairs.items b)) e in
        found_matter asked table (agrees index.key texts text) places (finds_rows (agrees index.key texts text) by_slot table found places slots (adds by_slot indexed) placed)
        (λ place fields there other. pattern_left_out model state.shapes state values kept is able refl law index.key texts (fitting_seen one) text fields (each_there (λ (f : Fields). length model.policy ≤ length f) table place fields long there)
        (ap (λ (k : KeyParts). k.columns) own ∙ ap policy_places (sym plan.0)) (ap (λ (k : KeyParts). k.pattern) own) plan.1 value (subst (λ (ps : List Pair). AreTexts (map datum values) ps texts) (sym plan.0) are) other)
    matter_by (by.Roles one) e roles =
        let question = plan_roles (pairs_in model es) (first_fitting model es) (first_question model es) (asked_seen one) (is.plan ∙ ap (λ (b : By). Some (plan_seen kept.pairs.items b)) e) in
        let own = key ∙ is.key ∙ ap (λ (b : By). key_of (plan_seen kept.pairs.items b)) e in
        found_matter asked table (has_some_name index.key (roles.name ∷ roles.names)) places (finds_rows (has_some_name index.key (roles.name ∷ roles.names)) by_slot table found places slots (roles.adds by_slot indexed) placed)
        (λ place fields there other. roles_left_out model state.shapes state values kept is able refl law (asked_seen one) index [] found roles fields (each_there (λ (f : Fields). length model.policy ≤ length f) table place fields long there) question own other)

    pub slots_matter : FindsBy (map datum values) state own_pairs kept.by index [] found gathered.Slots → AreAllThatMatter asked table places
    slots_matter finds = matter_by kept.by refl finds

  -- they are those of rows
  within_by : (one : By) (index : Indexed) (by_slot : List Fields) (found : List ℕ) → IsIndexOf index by_slot → FindsBy (map datum values) state (map pair_seen kept.pairs.items) one index [] found gathered.Slots → All (λ (slot : ℕ). slot < length by_slot) found
  within_by by.Texts index by_slot found indexed (texts, are, adds) = added_within (agrees index.key texts []) by_slot found (adds by_slot indexed)
  within_by (by.Pattern one) index by_slot found indexed (text, value, (texts, are, adds)) = added_within (agrees index.key texts text) by_slot found (adds by_slot indexed)
  within_by (by.Roles one) index by_slot found indexed roles = added_within (has_some_name index.key (roles.name ∷ roles.names)) by_slot found (roles.adds by_slot indexed)

  pub slots_within : (index : Indexed) (by_slot : List Fields) (found : List ℕ) → IsIndexOf index by_slot → FindsBy (map datum values) state (map pair_seen kept.pairs.items) kept.by index [] found gathered.Slots → All (λ (slot : ℕ). slot < length by_slot) found
  slots_within index by_slot found indexed finds = within_by kept.by index by_slot found indexed finds
