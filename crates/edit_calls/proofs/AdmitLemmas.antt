-- What is admitted.
use Rattle.std.proofs.Common.{◌≡◌, ℕ, ◌+◌, true, false, ◌==◌, ◌&&◌, List, [], ◌∷◌, ◌++◌, length, take, slice_get, All, Option, Some, None, append_assoc, refl, sym, ap, ◌∙◌, true≢false}
use Rattle.std.specs.Prelude.{IsTrue, is_none}
use Rattle.std.specs.List.{list_all}
use Rattle.std.specs.Option.{option_map_or}
use Rattle.std.proofs.lemmas.Bool.{and_parts, eqb-true}
use Rattle.std.proofs.lemmas.Bool.Decides.{Decides-eqb}
use Rattle.std.proofs.lemmas.List.{append-nil}
use Rattle.perm_base.specs.declared.shapes.Shapes.{Shapes}
use Rattle.perm_base.specs.declared.shapes.TableId.{TableId}
use Rattle.policy_table.proofs.CallerLemmas.{PutAll, Puts, shapes_edited, short_edited}
use Rattle.policy_table.specs.Changes.{applies, edited, flat}
use Rattle.policy_table.specs.Limits.{AreSound, HaveShapes, columns_of, has_short_fields, passed}
use Rattle.policy_table.specs.Tables.{Fields, Policy}
use Rattle.policy_table.specs.declared.change.Change.{Change}
use Rattle.policy_table.specs.declared.change.Change.TheVariants.{Insert, Remove, Replace}
use Rattle.policy_table.specs.declared.limit.Limit.{Limit}
use Rattle.edit_calls.specs.Admitted.{admits, is_fitting, may_stand}
use Rattle.edit_calls.specs.Edits.{edit_by}
use Rattle.edit_calls.specs.Refusals.{added_rules, refusal, table_of as call_table}
use Rattle.edit_calls.specs.declared.call.Call.{Call}
use Rattle.edit_calls.proofs.EditLemmas.{taken}
use Rattle.edit_calls.proofs.ShapeLemmas.{Fits, IsShort, added_fit, added_put, added_short}

-- the changes of two lists of edits
flat-append : (front back : List (List Change)) → flat (front ++ back) ≡ flat front ++ flat back
flat-append [] back = refl
flat-append (edit ∷ front) back = ap (λ (l : List Change). edit ++ l) (flat-append front back) ∙ sym (append_assoc edit (flat front) (flat back))

-- the changes of the edits in front grow by those of one more
pub flat_next : (edits : List (List Change)) (at : ℕ) (edit : List Change) → slice_get edits at ≡ Some edit → (old new : List Change) → old ≡ flat (take at edits) → new ≡ old ++ edit → new ≡ flat (take (at + 1) edits)
flat_next edits at edit here old new before more =
    more ∙ ap (λ (l : List Change). l ++ edit) before
    ∙ sym (ap flat (taken edits at edit here) ∙ flat-append (take at edits) (edit ∷ []) ∙ ap (λ (l : List Change). flat (take at edits) ++ l) (append-nil edit))

-- the rule may stand in the table
abbrev MayStand : Shapes → TableId → Fields → Type 0
MayStand shapes table rule = may_stand shapes table rule ≡ true

-- then it has the table's number of columns, and no long field
has_columns : (shapes : Shapes) (table : TableId) (rule : Fields) → MayStand shapes table rule → columns_of shapes table ≡ Some (length rule)
has_columns shapes table rule may = by (columns_of shapes table) (and_parts _ _ may).0
  where
    by : (p : Option ℕ) → option_map_or (λ (columns : ℕ). length rule == columns) p false ≡ true → p ≡ Some (length rule)
    by None is = absurd (true≢false (sym is))
    by (Some columns) is = ap Some (sym (eqb-true (length rule) columns is))

has_no_long_field : (shapes : Shapes) (table : TableId) (rule : Fields) → MayStand shapes table rule → IsTrue (has_short_fields rule)
has_no_long_field shapes table rule may = (and_parts _ _ may).1

-- what changes put in has a property that each rule has which may stand in its table
module _ (shapes : Shapes) (R : TableId → Fields → Type 0) (has : (table : TableId) (rule : Fields) → MayStand shapes table rule → R table rule) where
  one_put : (change : Change) → is_fitting shapes change ≡ true → Puts R change
  one_put (Insert table rule) fits = has table rule fits
  one_put (Remove table rule) fits = tt
  one_put (Replace table old new) fits = has table new fits

  fitting_put : (changes : List Change) → list_all (is_fitting shapes) changes ≡ true → PutAll R changes
  fitting_put [] fit = tt
  fitting_put (change ∷ changes) fit =
      let parts = and_parts (is_fitting shapes change) (list_all (is_fitting shapes) changes) fit in
      (one_put change parts.0, fitting_put changes parts.1)

-- changes that put in rules which may stand in their tables keep the shapes
pub fitting_shapes : (shapes : Shapes) (policy : Policy) (changes : List Change) → list_all (is_fitting shapes) changes ≡ true → HaveShapes shapes policy → HaveShapes shapes (edited changes policy)
fitting_shapes shapes policy changes fit have =
    shapes_edited shapes changes policy (fitting_put shapes (λ (table : TableId) (rule : Fields). columns_of shapes table ≡ Some (length rule)) (has_columns shapes) changes fit) have

-- admitted changes apply
pub admitted_applies : (shapes : Shapes) (policy : Policy) (changes : List Change) → admits shapes policy changes ≡ true → applies changes policy ≡ true
admitted_applies shapes policy changes is = (and_parts _ _ (and_parts _ _ is).0).1

-- and leave sound tables
pub admitted_sound : (shapes : Shapes) (policy : Policy) (changes : List Change) → AreSound shapes policy → admits shapes policy changes ≡ true → AreSound shapes (edited changes policy)
admitted_sound shapes policy changes sound is = record {
  shaped = fitting_shapes shapes policy changes fit sound.shaped;
  short = short_edited changes policy (fitting_put shapes (λ (table : TableId) (rule : Fields). IsTrue (has_short_fields rule)) (has_no_long_field shapes) changes fit) sound.short;
  within = none (passed shapes (edited changes policy)) (and_parts _ _ is).1;
}
  where
    fit : list_all (is_fitting shapes) changes ≡ true
    fit = (and_parts _ _ (and_parts _ _ is).0).0

    none : (p : Option Limit) → is_none p ≡ true → p ≡ None
    none None e = refl
    none (Some limit) e = absurd (true≢false (sym e))

-- a rule with its table's number of columns and no long field may stand there
may_stand_there : (shapes : Shapes) (table : TableId) (rule : Fields) → Fits shapes table rule → IsShort rule → MayStand shapes table rule
may_stand_there shapes table rule fits short = (λ j. columns j && short j)
  where
    columns : option_map_or (λ (columns : ℕ). length rule == columns) (columns_of shapes table) false ≡ true
    columns = ap (λ (p : Option ℕ). option_map_or (λ (columns : ℕ). length rule == columns) p false) fits ∙ (Decides-eqb (length rule) (length rule)).1 refl

-- changes that put in rules which may stand in their tables are fitting
all_fitting : (shapes : Shapes) (changes : List Change) → PutAll (MayStand shapes) changes → list_all (is_fitting shapes) changes ≡ true
all_fitting shapes [] put = refl
all_fitting shapes (change ∷ changes) put = λ j. one change put.0 j && all_fitting shapes changes put.1 j
  where
    one : (first : Change) → Puts (MayStand shapes) first → is_fitting shapes first ≡ true
    one (Insert table rule) may = may
    one (Remove table rule) may = refl
    one (Replace table old new) may = may

-- the edit of a call that is not refused is admitted, where it applies and the tables after it pass no limit
pub edit_is_admitted : (shapes : Shapes) (policy : Policy) (call : Call) (edit : List Change) → refusal shapes call ≡ None → edit_by shapes policy call ≡ Some edit → applies edit policy ≡ true
    → passed shapes (edited edit policy) ≡ None → admits shapes policy edit ≡ true
edit_is_admitted shapes policy call edit passes is possible none =
    let fit = added_fit shapes call passes in
    let short = added_short shapes call passes in
    let may : All (MayStand shapes (call_table call)) (added_rules call) = λ at other within. may_stand_there shapes (call_table call) _ (fit at other within) (short at other within) in
    let fitting = all_fitting shapes edit (added_put (MayStand shapes) shapes policy call edit may is) in
    λ j. fitting j && possible j && is_none (none j)
