-- The edits of a history fit, each in the tables before it.
use Rattle.std.proofs.Common.{◌≡◌, ℕ, zero, suc, ◌<◌, true, false, ◌==◌, ◌&&◌, List, [], ◌∷◌, All, drop, take, slice_get, length, Option, Some, refl, ap, subst, ◌∙◌, arith}
use Rattle.std.specs.Prelude.{IsTrue, is_some}
use Rattle.std.specs.List.{list_all}
use Rattle.std.specs.Option.{option_map_or}
use Rattle.std.proofs.lemmas.Bool.{and_parts}
use Rattle.std.proofs.lemmas.Bool.Decides.{Decides-eqb}
use Rattle.std.proofs.lemmas.List.Elements.{All-cons, All-head, All-nil, All-tail}
use Rattle.std.proofs.lemmas.Option.{same_Some}
use Rattle.edit_calls.specs.Admitted.{AreAdmitted, admits, is_fitting, may_stand}
use Rattle.log_ship.specs.Taken.{rules_may_stand}
use Rattle.perm_base.specs.declared.shapes.Shapes.{Shapes}
use Rattle.perm_base.specs.declared.shapes.TableId.{TableId}
use Rattle.policy_state.proofs.CallerLemmas.{has_stood}
use Rattle.policy_table.specs.Changes.{applies, changed, edited, is_possible, replay, suits}
use Rattle.policy_table.specs.Limits.{AreSound, columns_of, has_short_fields}
use Rattle.policy_table.specs.Tables.{Fields, Policy, place, rows, stands}
use Rattle.policy_table.specs.declared.change.Change.{Change}
use Rattle.policy_table.specs.declared.change.Change.TheVariants.{Insert, Remove, Replace}
use Rattle.policy_table.proofs.CallerLemmas.{PutAll, Puts, all_edited}

-- the rule may stand in the table
abbrev MayStand : Shapes → TableId → Fields → Type 0
MayStand shapes table rule = may_stand shapes table rule ≡ true

-- all rules of all tables may
abbrev pub AllMay : Shapes → Policy → Type 0
AllMay shapes policy = (table : TableId) → All (MayStand shapes table) (rows policy table)

-- those of sound tables do
both_all : {X : Type 0} (P Q R : X → Type 0) (xs : List X) → ((x : X) → P x → Q x → R x) → All P xs → All Q xs → All R xs
both_all P Q R [] join one other = All-nil R
both_all P Q R (x ∷ xs) join one other =
    All-cons R x xs (join x (All-head P x xs one) (All-head Q x xs other)) (both_all P Q R xs join (All-tail P x xs one) (All-tail Q x xs other))

may_by : (shapes : Shapes) (table : TableId) (rule : Fields) → columns_of shapes table ≡ Some (length rule) → IsTrue (has_short_fields rule) → MayStand shapes table rule
may_by shapes table rule fits short = (λ j. columns j && short j)
  where
    columns : option_map_or (λ (columns : ℕ). length rule == columns) (columns_of shapes table) false ≡ true
    columns = ap (λ (p : Option ℕ). option_map_or (λ (columns : ℕ). length rule == columns) p false) fits ∙ (Decides-eqb (length rule) (length rule)).1 refl

pub sound_may : (shapes : Shapes) (policy : Policy) → AreSound shapes policy → AllMay shapes policy
sound_may shapes policy sound = λ table.
    both_all (λ (rule : Fields). columns_of shapes table ≡ Some (length rule)) (λ (rule : Fields). IsTrue (has_short_fields rule)) (MayStand shapes table) (rows policy table) (λ rule. may_by shapes table rule) (sound.shaped.columns table) (sound.short table)

-- what an edit puts in may stand
one_put : (shapes : Shapes) (change : Change) → is_fitting shapes change ≡ true → Puts (MayStand shapes) change
one_put shapes (Insert table rule) may = may
one_put shapes (Remove table rule) may = tt
one_put shapes (Replace table old new) may = may

all_put : (shapes : Shapes) (changes : List Change) → list_all (is_fitting shapes) changes ≡ true → PutAll (MayStand shapes) changes
all_put shapes [] fit = tt
all_put shapes (change ∷ changes) fit =
    let parts = and_parts (is_fitting shapes change) (list_all (is_fitting shapes) changes) fit in
    (one_put shapes change parts.0, all_put shapes changes parts.1)

-- behind a change
may_changed : (shapes : Shapes) (policy : Policy) (change : Change) → Puts (MayStand shapes) change → AllMay shapes policy → AllMay shapes (changed change policy)
unfolding edited
may_changed shapes policy change put all = all_edited (MayStand shapes) (change ∷ []) policy (put, tt) all

-- each rule that an edit names may stand, where those that it puts in may and it applies
pub fits_edit : (shapes : Shapes) (changes : List Change) (policy : Policy) → AllMay shapes policy → list_all (is_fitting shapes) changes ≡ true → applies changes policy ≡ true → list_all (rules_may_stand shapes) changes ≡ true
unfolding applies
fits_edit shapes [] policy all fit possible = refl
fits_edit shapes (Insert table rule ∷ changes) policy all fit possible =
    let now = and_parts (may_stand shapes table rule) (list_all (is_fitting shapes) changes) fit in
    let can = and_parts (is_possible (Insert table rule) policy) (applies changes (changed (Insert table rule) policy)) possible in
    rw (now.0) (fits_edit shapes changes (changed (Insert table rule) policy) (may_changed shapes policy (Insert table rule) now.0 all) now.1 can.1)
fits_edit shapes (Remove table rule ∷ changes) policy all fit possible =
    let can = and_parts (is_possible (Remove table rule) policy) (applies changes (changed (Remove table rule) policy)) possible in
    let stood = (and_parts (is_some (place table)) (stands rule (rows policy table)) can.0).1 in
    let own : may_stand shapes table rule ≡ true = has_stood (MayStand shapes table) rule (rows policy table) (all table) stood in
    rw own (fits_edit shapes changes (changed (Remove table rule) policy) (may_changed shapes policy (Remove table rule) tt all) fit can.1)
fits_edit shapes (Replace table old new ∷ changes) policy all fit possible =
    let now = and_parts (may_stand shapes table new) (list_all (is_fitting shapes) changes) fit in
    let can = and_parts (is_possible (Replace table old new) policy) (applies changes (changed (Replace table old new) policy)) possible in
    let suited = (and_parts (is_some (place table)) (suits (Replace table old new) (rows policy table)) can.0).1 in
    let stood = (and_parts (stands old (rows policy table)) _ suited).0 in
    let own : may_stand shapes table old ≡ true = has_stood (MayStand shapes table) old (rows policy table) (all table) stood in
    rw (own, now.0) (fits_edit shapes changes (changed (Replace table old new) policy) (may_changed shapes policy (Replace table old new) now.0 all) now.1 can.1)

-- ---- the edit at a place of a history

pub record IsAt (shapes : Shapes) (policy : Policy) (edit : List Change) : Type 0 where
  pub admitted : admits shapes policy edit ≡ true
  pub fit : list_all (rules_may_stand shapes) edit ≡ true

pub edit_at : (shapes : Shapes) (policy : Policy) (history : List (List Change)) (place : ℕ) (edit : List Change) → AllMay shapes policy → AreAdmitted shapes policy history → slice_get history place ≡ Some edit → IsAt shapes (replay (take place history) policy) edit
edit_at shapes policy [] zero edit all are there = absurd cc
edit_at shapes policy [] (suc place) edit all are there = absurd cc
edit_at shapes policy (first ∷ history) zero edit all are there =
    let parts = and_parts _ _ (and_parts _ _ are.0).0 in
    subst (IsAt shapes policy) (same_Some first edit there) (record { admitted = are.0; fit = fits_edit shapes first policy all parts.0 parts.1 })
edit_at shapes policy (first ∷ history) (suc place) edit all are there =
    let parts = and_parts _ _ (and_parts _ _ are.0).0 in
    edit_at shapes (edited first policy) history place edit (all_edited (MayStand shapes) first policy (all_put shapes first parts.0) all) are.1 there

-- the edits from a place on begin with that edit
pub drop_at : {X : Type 0} (xs : List X) (place : ℕ) (x : X) → slice_get xs place ≡ Some x → drop place xs ≡ x ∷ drop (suc place) xs
drop_at [] zero x there = absurd cc
drop_at [] (suc place) x there = absurd cc
drop_at (y ∷ xs) zero x there = ap (λ z. z ∷ xs) (same_Some y x there)
drop_at (y ∷ xs) (suc place) x there = drop_at xs place x there

pub within_at : {X : Type 0} (xs : List X) (place : ℕ) (x : X) → slice_get xs place ≡ Some x → place < length xs
within_at [] zero x there = absurd cc
within_at [] (suc place) x there = absurd cc
within_at (y ∷ xs) zero x there = omega arith
within_at (y ∷ xs) (suc place) x there = omega (arith, within_at xs place x there)
