-- Edits that are admitted name rules of 1 to 32 fields, of tables with names.
use Rattle.std.proofs.Common.{◌≡◌, ℕ, zero, suc, ◌-◌, Result, Ok, Err, IfOk, MatchResult, ◌<◌, ◌≤◌, Bool, true, false, ◌||◌, cond, eqb, List, [], ◌∷◌, length, slice_get, get_or, Option, Some, None, All, refl, sym, ap, subst, ◌∙◌, arith, true≢false}
use Rattle.std.specs.Prelude.{if◌then◌else◌, is_some, IsSome}
use Rattle.std.specs.List.{AllByRecursion, list_all}
use Rattle.std.specs.Option.{option_map_or}
use Rattle.std.proofs.lemmas.Bool.{and_parts, eqb-true}
use Rattle.std.proofs.lemmas.List.Elements.{All-cons, All-head, All-nil, All-tail, recursion_from_All}
use Rattle.std.proofs.lemmas.Option.{same_Some, slice_get-get_or, slice_get_within}
use Rattle.edit_calls.specs.Admitted.{AreAdmitted, is_fitting, may_stand}
use Rattle.perm_base.specs.RoleShapes.{IsNumbered, shape_of}
use Rattle.perm_base.specs.Shapes.{AreValid}
use Rattle.perm_base.specs.TableNames.{name_of, table_names}
use Rattle.perm_base.specs.declared.shapes.RoleShape.{RoleShape}
use Rattle.perm_base.specs.declared.shapes.Shapes.{Shapes}
use Rattle.perm_base.specs.declared.shapes.TableId.{TableId}
use Rattle.perm_base.specs.declared.shapes.TableId.TheVariants.{G, P}
use Rattle.policy_query.specs.Edits.{IsEdit}
use Rattle.policy_table.specs.Changes.{applies, changed, edited, is_possible, suits}
use Rattle.policy_table.specs.Limits.{HaveShapes, columns_of, role_columns}
use Rattle.policy_table.specs.Tables.{Fields, Policy, place, rows, same, stands}
use Rattle.policy_table.specs.declared.change.Change.{Change}
use Rattle.policy_table.specs.declared.change.Change.TheVariants.{Insert, Remove, Replace}
use Rattle.policy_table.proofs.CallerLemmas.{Puts, same-Decides, shapes_edited}
use Rattle.version_log.specs.EditText.{IsNamedRule, NameRules}
use Rattle.version_log.specs.Log.{Logged}
use Rattle.policy_state.specs.States.{IsGrown}
use Rattle.policy_state.proofs.AdmittedLemmas.{has_columns}

-- the rule has as many fields as its table has columns
abbrev Fits : Shapes → TableId → Fields → Type 0
Fits shapes table rule = columns_of shapes table ≡ Some (length rule)

-- a relation that is found has a number from 1 to 8
numbered : (roles : List RoleShape) (number : ℕ) (shape : RoleShape) → AllByRecursion IsNumbered roles → shape_of roles number ≡ Some shape → (0 < number) × (number ≤ 8)
numbered [] number shape each found = absurd cc
numbered (role ∷ roles) number shape each found = by (eqb role.number number) refl found (numbered roles number shape each.1)
  where
    by : (test : Bool) → eqb role.number number ≡ test → cond test (Some role) (shape_of roles number) ≡ Some shape → (shape_of roles number ≡ Some shape → (0 < number) × (number ≤ 8)) → (0 < number) × (number ≤ 8)
    by true e is rest =
        let same : role.number ≡ number = eqb-true role.number number e in
        (subst (λ n. 0 < n) same each.0.some, subst (λ n. n ≤ 8) same each.0.few)
    by false e is rest = rest is

-- and so a name
has_name : (number : ℕ) → 0 < number → number ≤ 8 → IsSome (name_of (G number))
has_name zero some few = absurd (omega (arith, some))
has_name (suc place) some few = ap is_some (slice_get-get_or table_names (suc place) [] (omega (arith, few)))

-- a rule with its table's number of columns is such a one
named_rule : (shapes : Shapes) (table : TableId) (rule : Fields) → AreValid shapes → Fits shapes table rule → IsNamedRule table rule
named_rule shapes P rule valid fits =
    let size : shapes.columns ≡ length rule = same_Some shapes.columns (length rule) fits in
    record { named = refl; some = omega (arith, size, valid.some); few = omega (arith, size, valid.few) }
named_rule shapes (G number) rule valid fits = by (shape_of shapes.roles number) refl fits
  where
    sized : (shape : RoleShape) (test : Bool) → (if test then 3 else 2) ≡ length rule → IsSome (name_of (G number)) → IsNamedRule (G number) rule
    sized shape true size named = record { named = named; some = omega (arith, size); few = omega (arith, size) }
    sized shape false size named = record { named = named; some = omega (arith, size); few = omega (arith, size) }

    by : (found : Option RoleShape) → shape_of shapes.roles number ≡ found → option_map_or (λ (shape : RoleShape). Some (role_columns shape)) found None ≡ Some (length rule) → IsNamedRule (G number) rule
    by None is told = absurd cc
    by (Some shape) is told =
        let within = numbered shapes.roles number shape (recursion_from_All IsNumbered shapes.roles valid.roles.each) is in
        sized shape shape.with_domain (same_Some (role_columns shape) (length rule) told) (has_name number within.0 within.1)

-- what each of some rules has, a rule that stands among them has
pub has_stood : (R : Fields → Type 0) (rule : Fields) (rules : List Fields) → All R rules → stands rule rules ≡ true → R rule
has_stood R rule [] all is = absurd (true≢false (sym is))
has_stood R rule (other ∷ rules) all is = by (same rule other) refl is (has_stood R rule rules (All-tail R other rules all))
  where
    by : (test : Bool) → same rule other ≡ test → (test || stands rule rules) ≡ true → (stands rule rules ≡ true → R rule) → R rule
    by true e told rest = subst R (sym ((same-Decides rule other).0 e)) (All-head R other rules all)
    by false e told rest = rest told

-- the rules that a change names have their tables' columns
one_named : (shapes : Shapes) (policy : Policy) (table : TableId) (rule : Fields) → AreValid shapes → HaveShapes shapes policy → stands rule (rows policy table) ≡ true → IsNamedRule table rule
one_named shapes policy table rule valid have stood = named_rule shapes table rule valid (has_stood (Fits shapes table) rule (rows policy table) (have.columns table) stood)

-- what is known behind changes: they name such rules, and the tables keep their shapes
record AreNamed (shapes : Shapes) (policy : Policy) (changes : List Change) : Type 0 where
  names : NameRules changes
  shaped : HaveShapes shapes (edited changes policy)

-- one change keeps the shapes
shaped_changed : (shapes : Shapes) (policy : Policy) (change : Change) → Puts (Fits shapes) change → HaveShapes shapes policy → HaveShapes shapes (changed change policy)
unfolding edited
shaped_changed shapes policy change put have = shapes_edited shapes (change ∷ []) policy (put, tt) have

named_changes : (shapes : Shapes) (policy : Policy) (changes : List Change) → AreValid shapes → HaveShapes shapes policy → list_all (is_fitting shapes) changes ≡ true → applies changes policy ≡ true
    → AreNamed shapes policy changes
unfolding applies edited
named_changes shapes policy [] valid have fit possible = record { names = (tt, tt); shaped = have }
named_changes shapes policy (Insert table rule ∷ changes) valid have fit possible =
    let fits = and_parts (may_stand shapes table rule) (list_all (is_fitting shapes) changes) fit in
    let can = and_parts (is_possible (Insert table rule) policy) (applies changes (changed (Insert table rule) policy)) possible in
    let own : Fits shapes table rule = has_columns shapes table rule fits.0 in
    let rest = named_changes shapes (changed (Insert table rule) policy) changes valid (shaped_changed shapes policy (Insert table rule) own have) fits.1 can.1 in
    record { names = (named_rule shapes table rule valid own, rest.names); shaped = rest.shaped }
named_changes shapes policy (Remove table rule ∷ changes) valid have fit possible =
    let can = and_parts (is_possible (Remove table rule) policy) (applies changes (changed (Remove table rule) policy)) possible in
    let stood = (and_parts (is_some (place table)) (stands rule (rows policy table)) can.0).1 in
    let rest = named_changes shapes (changed (Remove table rule) policy) changes valid (shaped_changed shapes policy (Remove table rule) tt have) fit can.1 in
    record { names = (one_named shapes policy table rule valid have stood, rest.names); shaped = rest.shaped }
named_changes shapes policy (Replace table old new ∷ changes) valid have fit possible =
    let fits = and_parts (may_stand shapes table new) (list_all (is_fitting shapes) changes) fit in
    let can = and_parts (is_possible (Replace table old new) policy) (applies changes (changed (Replace table old new) policy)) possible in
    let suited = (and_parts (is_some (place table)) (suits (Replace table old new) (rows policy table)) can.0).1 in
    let stood = (and_parts (stands old (rows policy table)) _ suited).0 in
    let own : Fits shapes table new = has_columns shapes table new fits.0 in
    let rest = named_changes shapes (changed (Replace table old new) policy) changes valid (shaped_changed shapes policy (Replace table old new) own have) fits.1 can.1 in
    record { names = (one_named shapes policy table old valid have stood, (named_rule shapes table new valid own, rest.names)); shaped = rest.shaped }

-- edits that are admitted one after the other name such rules
pub named_edits : (shapes : Shapes) (policy : Policy) (edits : List (List Change)) → AreValid shapes → HaveShapes shapes policy → AreAdmitted shapes policy edits → All NameRules edits
named_edits shapes policy [] valid have are = All-nil NameRules
named_edits shapes policy (edit ∷ edits) valid have are =
    let whole = and_parts _ _ are.0 in
    let parts = and_parts _ _ whole.0 in
    let one = named_changes shapes policy edit valid have parts.0 parts.1 in
    All-cons NameRules edit edits one.names (named_edits shapes (edited edit policy) edits valid one.shaped are.1)

-- so do those by which tables have grown
pub named_grown : (shapes : Shapes) (policy : Policy) (edits : List (List Change)) → AreValid shapes → IsGrown shapes edits policy → All NameRules edits
named_grown shapes policy edits valid grown = named_edits shapes grown.base edits valid grown.sound.shaped grown.admitted

-- so does each of them
pub named_at : (edits : List (List Change)) (at : ℕ) (edit : List Change) → All NameRules edits → slice_get edits at ≡ Some edit → NameRules edit
named_at edits at edit all there =
    let within = slice_get_within edits at edit there in
    subst NameRules (same_Some (get_or edits at edit) edit (sym (slice_get-get_or edits at edit within) ∙ there)) (all at edit within)

-- and an edit that is found by its number
pub found_named : {X E : Type 0} (value : X → List Change) (log : Logged) (number : ℕ) (result : Result X E) (Q : E → Type 0) → All NameRules log.tail → MatchResult result (λ x. IsEdit log number (value x)) Q
    → IfOk result (λ x. NameRules (value x))
found_named value log number (Ok x) Q all is = named_at log.tail (number - log.start - 1) (value x) all is.there
found_named value log number (Err e) Q all is = tt
