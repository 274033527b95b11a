-- Each given edit is admitted in the tables before it, and so the tables of each version are in order.
use Rattle.std.proofs.Common.{◌≡◌, ℕ, zero, suc, Bool, true, false, eqb, List, [], ◌∷◌, ◌++◌, length, take, take_all, slice_get, Option, Some, None, Ok, Err, refl, subst, arith}
use Rattle.std.specs.Prelude.{if◌then◌else◌, is_some, ⊤}
use Rattle.std.specs.List.{IsDistinct, fold}
use Rattle.std.specs.Option.{option_map_or}
use Rattle.std.proofs.lemmas.Option.{same_Some}
use Rattle.edit_calls.proofs.CallerLemmas.{has_place}
use Rattle.edit_calls.specs.Admitted.{admits}
use Rattle.edit_calls.specs.Answers.{CallAnswer, answer, while_few, within}
use Rattle.edit_calls.specs.Edits.{edit_by}
use Rattle.edit_calls.specs.Refusals.{refusal, table_of}
use Rattle.edit_calls.specs.declared.call.Call.{Call}
use Rattle.edit_calls.specs.declared.refused.CallRefused.{CallRefused}
use Rattle.edit_calls.specs.declared.refused.CallRefused.TheVariants.{Full}
use Rattle.perm_base.specs.Shapes.{AreValid}
use Rattle.perm_base.specs.declared.shapes.Shapes.{Shapes}
use Rattle.perm_base.specs.declared.shapes.TableId.TheVariants.{P}
use Rattle.policy_table.proofs.CallerLemmas.{are_lists, kept_of, ordered_edited}
use Rattle.policy_table.specs.Changes.{applies, edited, replay}
use Rattle.policy_table.specs.Limits.{AreSound, passed}
use Rattle.policy_table.specs.Tables.{AreOrdered, IsKept, Policy, most_tables, place, rows, same}
use Rattle.policy_table.specs.declared.change.Change.{Change}
use Rattle.policy_table.specs.declared.limit.Limit.{Limit}
use Rattle.policy_table.specs.declared.limit.Limit.TheVariants.{Edits}
use Rattle.script_read.specs.Said.{Said}
use Rattle.script_read.specs.Said as said
use Rattle.version_log.specs.Log.{most_versions}
use Rattle.session_meaning.specs.Given.{given, with_edit, with_item}
use Rattle.session_meaning.specs.Versions.{tables_at}

-- what the laws of calls say
pub record CallLaws : Type 0 where
  pub made : (shapes : Shapes) (policy : Policy) (call : Call) (edit : List Change) → length policy.lists ≡ most_tables → IsDistinct same (rows policy (table_of call)) → IsDistinct same (rows policy P)
      → is_some (place (table_of call)) ≡ true → edit_by shapes policy call ≡ Some edit → applies edit policy ≡ true
  pub admitted : (shapes : Shapes) (policy : Policy) (call : Call) (edit : List Change) → refusal shapes call ≡ None → edit_by shapes policy call ≡ Some edit → applies edit policy ≡ true
      → passed shapes (edited edit policy) ≡ None → admits shapes policy edit ≡ true
  pub applied : (shapes : Shapes) (policy : Policy) (changes : List Change) → admits shapes policy changes ≡ true → applies changes policy ≡ true
  pub sound : (shapes : Shapes) (policy : Policy) (changes : List Change) → AreSound shapes policy → admits shapes policy changes ≡ true → AreSound shapes (edited changes policy)

-- ---- an answer that is an edit

-- the call is not refused, this is its edit, and the tables after it pass no limit
record IsFound (shapes : Shapes) (policy : Policy) (call : Call) (edit : List Change) : Type 0 where
  passes : refusal shapes call ≡ None
  is : edit_by shapes policy call ≡ Some edit
  within : passed shapes (edited edit policy) ≡ None

found : (shapes : Shapes) (policy : Policy) (call : Call) (edit : List Change) → answer shapes policy call ≡ Ok (Some edit) → IsFound shapes policy call edit
found shapes policy call edit = by_refusal (refusal shapes call) refl
  where
    limited : List Change → Option Limit → CallAnswer
    limited one limit = option_map_or (λ (l : Limit). Err (Full l)) limit (Ok (Some one))

    edited_by : Option (List Change) → CallAnswer
    edited_by one = option_map_or (λ (e : List Change). within shapes policy e) one (Ok None)

    refused_by : Option CallRefused → CallAnswer
    refused_by refused = option_map_or (λ (r : CallRefused). Err r) refused (edited_by (edit_by shapes policy call))

    by_limit : (one : List Change) (limit : Option Limit) → refusal shapes call ≡ None → edit_by shapes policy call ≡ Some one → passed shapes (edited one policy) ≡ limit → limited one limit ≡ Ok (Some edit) → IsFound shapes policy call edit
    by_limit one None passes is none told = subst (IsFound shapes policy call) (let same : one ≡ edit = cc in same) (record { passes = passes; is = is; within = none })
    by_limit one (Some limit) passes is full told = absurd cc

    by_edit : (one : Option (List Change)) → refusal shapes call ≡ None → edit_by shapes policy call ≡ one → edited_by one ≡ Ok (Some edit) → IsFound shapes policy call edit
    by_edit None passes is told = absurd cc
    by_edit (Some one) passes is told = by_limit one (passed shapes (edited one policy)) passes is refl told

    by_refusal : (refused : Option CallRefused) → refusal shapes call ≡ refused → refused_by refused ≡ Ok (Some edit) → IsFound shapes policy call edit
    by_refusal None passes told = by_edit (edit_by shapes policy call) passes refl told
    by_refusal (Some refused) passes told = absurd cc

-- ---- edits that are admitted one after the other

abbrev AreAdmitted : Shapes → Policy → List (List Change) → Type 0
AreAdmitted shapes policy [] = ⊤
AreAdmitted shapes policy (edit ∷ edits) = (admits shapes policy edit ≡ true) × AreAdmitted shapes (edited edit policy) edits

admitted_more : (shapes : Shapes) (edits : List (List Change)) (policy : Policy) (edit : List Change) → AreAdmitted shapes policy edits → admits shapes (replay edits policy) edit ≡ true → AreAdmitted shapes policy (edits ++ edit ∷ [])
admitted_more shapes [] policy edit all one = (one, tt)
admitted_more shapes (first ∷ edits) policy edit all one = (all.0, admitted_more shapes edits (edited first policy) edit all.1 one)

admitted_at : (shapes : Shapes) (edits : List (List Change)) (policy : Policy) (at : ℕ) (edit : List Change) → AreAdmitted shapes policy edits → slice_get edits at ≡ Some edit → admits shapes (replay (take at edits) policy) edit ≡ true
admitted_at shapes [] policy at edit all here = absurd cc
admitted_at shapes (first ∷ edits) policy zero edit all here = subst (λ (e : List Change). admits shapes policy e ≡ true) (same_Some first edit here) all.0
admitted_at shapes (first ∷ edits) policy (suc at) edit all here = admitted_at shapes edits (edited first policy) at edit all.1 here

module _ (laws : CallLaws) (shapes : Shapes) where
  ordered_behind : (version : ℕ) (edits : List (List Change)) (policy : Policy) → AreAdmitted shapes policy edits → AreOrdered policy → AreOrdered (replay (take version edits) policy)
  ordered_behind zero edits policy all order = order
  ordered_behind (suc version) [] policy all order = order
  ordered_behind (suc version) (edit ∷ edits) policy all order = ordered_behind version edits (edited edit policy) all.1 (ordered_edited edit policy order (laws.applied shapes policy edit all.0))

  sound_behind : (version : ℕ) (edits : List (List Change)) (policy : Policy) → AreAdmitted shapes policy edits → AreSound shapes policy → AreSound shapes (replay (take version edits) policy)
  sound_behind zero edits policy all sound = sound
  sound_behind (suc version) [] policy all sound = sound
  sound_behind (suc version) (edit ∷ edits) policy all sound = sound_behind version edits (edited edit policy) all.1 (laws.sound shapes policy edit sound all.0)

  module _ (opening : Policy) (valid : AreValid shapes) (order : AreOrdered opening) where
    -- the edit of a call in tables that are in order is admitted there
    answer_admitted : (policy : Policy) (call : Call) (edit : List Change) → AreOrdered policy → answer shapes policy call ≡ Ok (Some edit) → admits shapes policy edit ≡ true
    answer_admitted policy call edit ordered is =
        let one = found shapes policy call edit is in
        laws.admitted shapes policy call edit one.passes one.is
        (laws.made shapes policy call edit ordered.counted (ordered.once (table_of call)) (ordered.once P) (has_place shapes call valid one.passes) one.is) one.within

    -- and so is each that a further item gives
    item_admitted : (edits : List (List Change)) (item : Said) → AreAdmitted shapes opening edits → AreAdmitted shapes opening (with_item shapes opening edits item)
    item_admitted edits (said.edits call) all = by (answer shapes (replay edits opening) call) refl
      where
        ordered : AreOrdered (replay edits opening)
        ordered = subst (λ (l : List (List Change)). AreOrdered (replay l opening)) (take_all (length edits) edits (omega arith)) (ordered_behind (length edits) edits opening all order)

        by_count : (edit : List Change) (full : Bool) → admits shapes (replay edits opening) edit ≡ true → AreAdmitted shapes opening (with_edit edits (if full then Err (Full Edits) else Ok (Some edit)))
        by_count edit true one = all
        by_count edit false one = admitted_more shapes edits opening edit all one

        by : (answered : CallAnswer) → answer shapes (replay edits opening) call ≡ answered → AreAdmitted shapes opening (with_edit edits (while_few most_versions (length edits) answered))
        by (Ok None) is = all
        by (Err refused) is = all
        by (Ok (Some edit)) is = by_count edit (eqb (length edits) most_versions) (answer_admitted (replay edits opening) call edit ordered is)
    item_admitted edits _ all = all

    items_admitted : (edits : List (List Change)) (items : List Said) → AreAdmitted shapes opening edits → AreAdmitted shapes opening (fold (with_item shapes opening) edits items)
    items_admitted edits [] all = all
    items_admitted edits (item ∷ items) all = items_admitted (with_item shapes opening edits item) items (item_admitted edits item all)

    given_admitted : (items : List Said) → AreAdmitted shapes opening (given shapes opening items)
    unfolding given
    given_admitted items = items_admitted [] items tt

    -- each edit is admitted in the tables of the version before it
    pub edit_admitted : (items : List Said) (at : ℕ) (edit : List Change) → slice_get (given shapes opening items) at ≡ Some edit → admits shapes (tables_at shapes opening items at) edit ≡ true
    edit_admitted items at edit here = admitted_at shapes (given shapes opening items) opening at edit (given_admitted items) here

    -- the tables of each version are sound, where the opening tables are
    pub version_sound : (items : List Said) (version : ℕ) → AreSound shapes opening → AreSound shapes (tables_at shapes opening items version)
    version_sound items version sound = sound_behind version (given shapes opening items) opening (given_admitted items) sound

    -- and keep what all tables keep
    pub version_kept : (items : List Said) (version : ℕ) → AreSound shapes opening → IsKept (tables_at shapes opening items version)
    version_kept items version sound =
        let ordered = ordered_behind version (given shapes opening items) opening (given_admitted items) order in
        let after = version_sound items version sound in
        kept_of (tables_at shapes opening items version) ordered (are_lists shapes (tables_at shapes opening items version) ordered.counted after.shaped after.within)
