-- The verdict on the rows of a policy, from that on their outcomes.
use Rattle.std.proofs.Common.{◌≡◌, inl, inr, ℕ, Bool, true, false, true≢false, IfOk, IfSome, List, map, subst, Option, Some, None, Result, Ok, Err, refl, sym}
use Rattle.std.specs.List.{AllZip}
use Rattle.effect_fold.specs.Verdict.{Taken}
use Rattle.effect_fold.specs.declared.effect.Effect.{Effect}
use Rattle.effect_fold.specs.declared.effect.Effect.TheVariants as effect
use Rattle.effect_fold.specs.declared.fault.Fault.{Fault}
use Rattle.effect_fold.specs.declared.verdict.Verdict.{Verdict}
use Rattle.outside.specs.declared.fault.NoMemory.{NoMemory}
use Rattle.model_conf.specs.ModelText.{ModelParts}
use Rattle.perm_base.specs.declared.shapes.Shapes.{Shapes}
use Rattle.perm_value.specs.Datum.{Datum}
use Rattle.perm_value.specs.Seen.{datum}
use Rattle.perm_value.specs.declared.value.Value.{Value}
use Rattle.policy_state.specs.States.{State, tables}
use Rattle.policy_table.specs.Tables.{Fields, Policy}
use Rattle.regex_gate.specs.Refusals.{Refusals, RefusedOnly, IsRefused, IsUsed}
use Rattle.regex_gate.proofs.CallerLemmas.{refused_once, refused_since, refused_still}
use Rattle.matcher_meaning.proofs.CallerLemmas.{OneTruthAt, SomeTruthAt}
use Rattle.matcher_meaning.specs.Cases.{Case, at_row, where_refused}
use Rattle.matcher_meaning.specs.Comes.{TruthIs}
use Rattle.matcher_read.specs.Expression.{Expression}
use Rattle.matcher_meaning.specs.Order.{AreInOrder, numbered_from}
use Rattle.matcher_meaning.specs.Perm.{Refusal}
use Rattle.matcher_meaning.specs.Verdicts.{IsJudged, RowHasOutcome}
use Rattle.decision.specs.Decisions.{IsJudgedWith, RefusedIn}
use Rattle.decision.specs.Helps.Outcomes.{HasOutcomesInOrder, IsJudgedOn, IsVerdictOn, is_by_subjects}

-- what is judged on outcomes of which less is said
judged_weaker : (case : Case) (Has HasToo : Option Refusal → List Taken → Type 0) (Refused : Option (List ℕ) → Type 0) → ((refused : Option Refusal) (outcomes : List Taken) → Has refused outcomes → HasToo refused outcomes) → (v : Verdict) → IsJudgedOn case Has Refused v → IsJudgedOn case HasToo Refused v
judged_weaker case Has HasToo Refused weaker v (inl (none, (outcomes, has, is))) = inl (none, (outcomes, weaker None outcomes has, is))
judged_weaker case Has HasToo Refused weaker v (inr (refusal, bad, fault, (outcomes, has, is))) = inr (refusal, bad, fault, (outcomes, weaker (Some refusal) outcomes has, is))

result_weaker : (P Q : Verdict → Type 0) → ((v : Verdict) → P v → Q v) → (r : Result Verdict NoMemory) → IfOk r P → IfOk r Q
result_weaker P Q weaker (Ok v) is = weaker v is
result_weaker P Q weaker (Err e) is = tt

-- under other effects than the priority of subjects the rows are judged in the order of the table
in_table_order : (case : Case) (e : Effect) (table : List Fields) → is_by_subjects e ≡ false → AreInOrder case e table (numbered_from 1 table)
in_table_order case effect.AllowOverride table e = refl
in_table_order case effect.DenyOverride table e = refl
in_table_order case effect.AllowAndDeny table e = refl
in_table_order case effect.Priority table e = refl
in_table_order case effect.SubjectPriority table e = absurd (true≢false e)

pub judged_in_table_order : (case : Case) (Refused : Option (List ℕ) → Type 0) (table : List Fields) (v : Verdict) → is_by_subjects case.model.effect ≡ false → IsJudgedOn case (λ refused outcomes. AllZip (RowHasOutcome case refused) (numbered_from 1 table) outcomes) Refused v
    → IsJudgedOn case (HasOutcomesInOrder case table) Refused v
judged_in_table_order case Refused table v e is =
    judged_weaker case (λ refused outcomes. AllZip (RowHasOutcome case refused) (numbered_from 1 table) outcomes) (HasOutcomesInOrder case table) Refused
    (λ refused outcomes are. (numbered_from 1 table, in_table_order case case.model.effect table e, are)) v is

-- nothing was refused
abbrev pub Unrefused : Option (List ℕ) → Type 0
Unrefused None = Unit {0}
Unrefused (Some pattern) = ⊥

-- then the verdict is the one where nothing is refused
pub judged_unrefused : (case : Case) (Has : Option Refusal → List Taken → Type 0) (v : Verdict) → IsJudgedOn case Has Unrefused v → IsVerdictOn case (Has None) v
judged_unrefused case Has v (inl (none, is)) = is
judged_unrefused case Has v (inr (refusal, bad, fault, is)) = absurd bad

-- what was refused in a part was so in the whole
pub judged_for_more : (case : Case) (Has : Option Refusal → List Taken → Type 0) (Refused RefusedToo : Option (List ℕ) → Type 0) (v : Verdict) → ((refused : Option (List ℕ)) → Refused refused → RefusedToo refused) → IsJudgedOn case Has Refused v → IsJudgedOn case Has RefusedToo v
judged_for_more case Has Refused RefusedToo v more (inl (none, is)) = inl (more None none, is)
judged_for_more case Has Refused RefusedToo v more (inr (refusal, refused, fault, is)) = inr (refusal, more (Some refusal.pattern) refused, fault, is)

pub result_for_more : (case : Case) (Has : Option Refusal → List Taken → Type 0) (Refused RefusedToo : Option (List ℕ) → Type 0) (r : Result Verdict NoMemory) → ((refused : Option (List ℕ)) → Refused refused → RefusedToo refused)
    → IfOk r (IsJudgedOn case Has Refused) → IfOk r (IsJudgedOn case Has RefusedToo)
result_for_more case Has Refused RefusedToo r more is = result_weaker (IsJudgedOn case Has Refused) (IsJudgedOn case Has RefusedToo) (λ v. judged_for_more case Has Refused RefusedToo v more) r is

-- what was refused alone was refused
pub only_refused : (before now : Refusals) (refused : Option (List ℕ)) → RefusedOnly before now refused → IfSome refused (IsRefused before now)
only_refused before now None is = tt
only_refused before now (Some pattern) is = refused_once before now pattern is

-- a refusal behind others, and before others
pub some_since : (before between now : Refusals) (refused : Option (List ℕ)) → IsUsed before between → RefusedOnly between now refused → IfSome refused (IsRefused before now)
some_since before between now None used is = tt
some_since before between now (Some pattern) used is = refused_since before between now pattern used (refused_once between now pattern is)

pub some_still : (before between now : Refusals) (refused : Option (List ℕ)) → IfSome refused (IsRefused before between) → IsUsed between now → IfSome refused (IsRefused before now)
some_still before between now None is used = tt
some_still before between now (Some pattern) is used = refused_still before between now pattern is used

-- under each effect what was refused alone is so
pub only_in : (e : Effect) (before now : Refusals) (refused : Option (List ℕ)) → RefusedOnly before now refused → RefusedIn e before now refused
only_in effect.AllowOverride before now refused is = is
only_in effect.DenyOverride before now refused is = is
only_in effect.AllowAndDeny before now refused is = is
only_in effect.Priority before now refused is = is
only_in effect.SubjectPriority before now refused is = only_refused before now refused is

-- under the priority of subjects it is enough that it was refused
pub among_in : (e : Effect) → is_by_subjects e ≡ true → (before now : Refusals) (refused : Option (List ℕ)) → IfSome refused (IsRefused before now) → RefusedIn e before now refused
among_in effect.AllowOverride by before now refused is = absurd (true≢false (sym by))
among_in effect.DenyOverride by before now refused is = absurd (true≢false (sym by))
among_in effect.AllowAndDeny by before now refused is = absurd (true≢false (sym by))
among_in effect.Priority by before now refused is = absurd (true≢false (sym by))
among_in effect.SubjectPriority by before now refused is = is

-- what was refused in a decision was refused
refused_in : (e : Effect) (before now : Refusals) (pattern : List ℕ) → RefusedIn e before now (Some pattern) → IsRefused before now pattern
refused_in effect.AllowOverride before now pattern is = refused_once before now pattern is
refused_in effect.DenyOverride before now pattern is = refused_once before now pattern is
refused_in effect.AllowAndDeny before now pattern is = refused_once before now pattern is
refused_in effect.Priority before now pattern is = refused_once before now pattern is
refused_in effect.SubjectPriority before now pattern is = is

-- what is judged, with what was refused, is judged
pub judged_plain : (model : ModelParts) (shapes : Shapes) (policy : Policy) (request : List Datum) (before now : Refusals) (r : Result Verdict NoMemory)
    → IfOk r (IsJudgedWith model shapes policy request (RefusedIn model.effect before now)) → IfOk r (IsJudged model shapes policy request (IsRefused before now))
judged_plain model shapes policy request before now r is =
    result_weaker (IsJudgedWith model shapes policy request (RefusedIn model.effect before now)) (IsJudged model shapes policy request (IsRefused before now)) one r is
  where
    one : (v : Verdict) → IsJudgedWith model shapes policy request (RefusedIn model.effect before now) v → IsJudged model shapes policy request (IsRefused before now) v
    one v (inl (none, verdict)) = inl verdict
    one v (inr (refusal, refused, fault, verdict)) = inr (refusal, refused_in model.effect before now refusal.pattern refused, fault, verdict)

-- a law of all truths, at the rows of one case
pub truths_at : ((case : Case) (e : Expression) → (r : Result Bool Fault) × TruthIs case e r) → (case : Case) → SomeTruthAt case
truths_at law case row refused = law (where_refused (at_row case row) refused) case.model.matcher

pub one_truth_at : ((case : Case) (e : Expression) (first second : Result Bool Fault) → TruthIs case e first → TruthIs case e second → first ≡ second) → (case : Case) → OneTruthAt case
one_truth_at law case row refused = law (where_refused (at_row case row) refused) case.model.matcher

-- what is asked for is the program's model, the policy and the request
pub judged_asked : (held model : ModelParts) (own state : State) (asked request : List Value) (before now : Refusals) (r : Result Verdict NoMemory) → held ≡ model → own ≡ state → asked ≡ request
    → IfOk r (IsJudgedWith held own.shapes (tables own) (map datum asked) (RefusedIn held.effect before now)) → IfOk r (IsJudgedWith model state.shapes (tables state) (map datum request) (RefusedIn model.effect before now))
judged_asked held model own state asked request before now r same_model same_state same_request is =
    subst (λ (values : List Value). IfOk r (IsJudgedWith model state.shapes (tables state) (map datum values) (RefusedIn model.effect before now))) same_request
    (subst (λ (s : State). IfOk r (IsJudgedWith model s.shapes (tables s) (map datum asked) (RefusedIn model.effect before now))) same_state
    (subst (λ (m : ModelParts). IfOk r (IsJudgedWith m own.shapes (tables own) (map datum asked) (RefusedIn m.effect before now))) same_model is))
