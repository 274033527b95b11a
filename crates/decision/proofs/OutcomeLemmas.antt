-- What a run of code says of a row.
use Rattle.std.proofs.Common.{◌≡◌, inl, inr, ℕ, Bool, List, Option, Some, None, Result, Ok, Err, refl, sym, ap, ◌∙◌, subst}
use Rattle.effect_fold.specs.declared.fault.Cause.{Cause}
use Rattle.effect_fold.specs.declared.fault.Fault.{Fault}
use Rattle.effect_fold.specs.declared.outcome.Outcome.{Outcome}
use Rattle.effect_fold.specs.declared.outcome.Outcome.TheVariants.{Failed}
use Rattle.perm_value.specs.Datum.{Datum}
use Rattle.perm_value.specs.Datum as datums
use Rattle.perm_value.specs.Seen.{datum_of_view}
use Rattle.perm_value.specs.declared.value.View.{View}
use Rattle.perm_value.specs.declared.value.View.TheVariants as view
use Rattle.policy_table.specs.Tables.{Fields}
use Rattle.regex_gate.specs.Refusals.{Refusals, RefusedOnly, IsUsed}
use Rattle.regex_gate.proofs.CallerLemmas.{used_one, used_same}
use Rattle.matcher_meaning.specs.Answers.{Evaluation}
use Rattle.matcher_meaning.specs.Cases.{Case, at_row, where_refused}
use Rattle.matcher_meaning.specs.Perm.{outcome_of}
use Rattle.matcher_code.specs.Compiled.{as_answer}
use Rattle.matcher_code.specs.Machine.{CodeComesTo}
use Rattle.matcher_code.specs.Rules.{CodeParts}
use Rattle.matcher_code.specs.RunEnds.{IsAnswer, IsValueOf}
use Rattle.matcher_code.specs.declared.no_truth.NoTruth.{NoTruth}
use Rattle.matcher_code.specs.declared.no_truth.NoTruth.TheVariants as stop
use Rattle.decision.specs.Helps.Outcomes.{ComesTo, SaysTruth, truth_in, word_of_row}
use Rattle.decision.specs.Helps.Parts.{IsProgram}
use Rattle.decision.specs.declared.plan.KeptPlan.{KeptPlan}

-- an answer of which more is known
answer_weaker : {X : Type 0} (Says SaysToo : Option (ℕ × List ℕ) → Evaluation → Type 0) (value : X → Datum) (Refused : Option (List ℕ) → Type 0) → ((refused : Option (ℕ × List ℕ)) (answer : Evaluation) → Says refused answer → SaysToo refused answer) → (r : Result X NoTruth)
    → IsAnswer Says value Refused r → IsAnswer SaysToo value Refused r
answer_weaker Says SaysToo value Refused weaker (Ok x) (none, is) = (none, weaker None (Ok (value x)) is)
answer_weaker Says SaysToo value Refused weaker (Err (stop.Fault failed)) (inl (none, is)) = inl (none, weaker None (Err failed) is)
answer_weaker Says SaysToo value Refused weaker (Err (stop.Fault failed)) (inr (pattern, bad, cause, is)) = inr (pattern, bad, cause, weaker (Some (failed.at, pattern)) (Err failed) is)
answer_weaker Says SaysToo value Refused weaker (Err stop.NoMemory) none = none

-- what the code of a program comes to is the truth of its matcher
truth_of_value : (case : Case) (code : CodeParts) (by_row : Bool) (effect domain : Option ℕ) (plan : Option KeptPlan) → IsProgram case.model code by_row effect domain plan → (Refused : Option (List ℕ) → Type 0) (r : Result View NoTruth)
    → IsValueOf case code.ops Refused r → IsAnswer (SaysTruth case) datum_of_view Refused r
truth_of_value case code by_row effect domain plan program Refused r is =
    answer_weaker (λ refused answer. CodeComesTo (where_refused case refused) code.ops answer) (SaysTruth case) datum_of_view Refused
    (λ refused answer comes. program.truth (where_refused case refused) answer refl comes) r is

truth_in_is : (v : View) (b : Bool) → datum_of_view v ≡ datums.truth b → truth_in v ≡ b
truth_in_is (view.Truth c) b e = cc
truth_in_is (view.Text bytes) b e = absurd cc
truth_in_is (view.Whole n) b e = absurd cc
truth_in_is (view.List values) b e = absurd cc
truth_in_is (view.Object members) b e = absurd cc
truth_in_is view.Nothing b e = absurd cc

-- a value that is said to be a truth is one
said_truth : (case : Case) (v : View) → SaysTruth case None (Ok (datum_of_view v)) → datum_of_view v ≡ datums.truth (truth_in v)
said_truth case v (t, is, truth) = by t is
  where
    by : (t : Result Bool Fault) → Ok (datum_of_view v) ≡ as_answer t → datum_of_view v ≡ datums.truth (truth_in v)
    by (Ok b) e = let d : datum_of_view v ≡ datums.truth b = cc in d ∙ ap (λ (c : Bool). datums.truth c) (sym (truth_in_is v b d))
    by (Err fault) e = absurd cc

-- the truth that a run gives
pub truth_given : (case : Case) (code : CodeParts) (by_row : Bool) (effect domain : Option ℕ) (plan : Option KeptPlan) → IsProgram case.model code by_row effect domain plan → (Refused : Option (List ℕ) → Type 0) (v : View) (b : Bool) → b ≡ truth_in v
    → IsValueOf case code.ops Refused (Ok v) → IsAnswer (SaysTruth case) datums.truth Refused (Ok b)
truth_given case code by_row effect domain plan program Refused v b e is =
    let whole = truth_of_value case code by_row effect domain plan program Refused (Ok v) is in
    let said : SaysTruth case None (Ok (datum_of_view v)) = whole.1 in
    (whole.0, subst (λ (d : Datum). SaysTruth case None (Ok d)) (said_truth case v said ∙ ap (λ (c : Bool). datums.truth c) (sym e)) said)

-- or why it gives none
pub stop_given : (case : Case) (code : CodeParts) (by_row : Bool) (effect domain : Option ℕ) (plan : Option KeptPlan) → IsProgram case.model code by_row effect domain plan → (Refused : Option (List ℕ) → Type 0) (why : NoTruth) → IsValueOf case code.ops Refused (Err why) → IsAnswer {X = Bool} (SaysTruth case) datums.truth Refused (Err why)
stop_given case code by_row effect domain plan program Refused why is = by why (truth_of_value case code by_row effect domain plan program Refused (Err why) is)
  where
    by : (why : NoTruth) → IsAnswer {X = View} (SaysTruth case) datum_of_view Refused (Err why) → IsAnswer {X = Bool} (SaysTruth case) datums.truth Refused (Err why)
    by (stop.Fault failed) said = said
    by stop.NoMemory said = said

-- what a truth comes to
pub comes_to : (case : Case) (Refused : Option (List ℕ) → Type 0) (row : Option Fields) (truth : Bool) (o : Outcome) → IsAnswer (SaysTruth (at_row case row)) datums.truth Refused (Ok truth) → o ≡ outcome_of (Ok truth) (word_of_row case.model.policy row) → ComesTo case Refused row o
comes_to case Refused row truth o (none, (t, is, says)) gives = inl (none, (t, says, gives ∙ ap (λ (r : Result Bool Fault). outcome_of r (word_of_row case.model.policy row)) (sym (same t truth (sym is)))))
  where
    same : (t : Result Bool Fault) (b : Bool) → as_answer t ≡ Ok (datums.truth b) → t ≡ Ok b
    same (Ok other) b e = cc
    same (Err fault) b e = absurd cc

fault_said : (t : Result Bool Fault) (failed : Fault) → as_answer t ≡ Err failed → t ≡ Err failed
fault_said (Ok b) failed e = absurd cc
fault_said (Err fault) failed e = cc

-- and a fault in its place
pub comes_to_fault : (case : Case) (Refused : Option (List ℕ) → Type 0) (row : Option Fields) (failed : Fault) → IsAnswer {X = Bool} (SaysTruth (at_row case row)) datums.truth Refused (Err (stop.Fault failed)) → ComesTo case Refused row (Failed failed)
comes_to_fault case Refused row failed (inl (none, (t, is, says))) = inl (none, (t, says, ap (λ (r : Result Bool Fault). outcome_of r (word_of_row case.model.policy row)) (sym (fault_said t failed (sym is)))))
comes_to_fault case Refused row failed (inr (pattern, bad, cause, (t, is, says))) =
    inr (
      failed.at,
      pattern,
      bad,
      ap (λ (c : Cause). Failed (record { cause = c; at = failed.at })) cause,
      (t, says, ap (λ (r : Result Bool Fault). outcome_of r (word_of_row case.model.policy row)) (sym (fault_said t failed (sym is)))),
    )

-- what was refused in a part was so in the whole
pub comes_for_more : (case : Case) (Refused RefusedToo : Option (List ℕ) → Type 0) (row : Option Fields) (o : Outcome) → ((refused : Option (List ℕ)) → Refused refused → RefusedToo refused) → ComesTo case Refused row o → ComesTo case RefusedToo row o
comes_for_more case Refused RefusedToo row o more (inl (none, is)) = inl (more None none, is)
comes_for_more case Refused RefusedToo row o more (inr (at, pattern, bad, failed, is)) = inr (at, pattern, more (Some pattern) bad, failed, is)

-- what the finder refused in an evaluation
pub answer_used : {X : Type 0} (Says : Option (ℕ × List ℕ) → Evaluation → Type 0) (value : X → Datum) (before now : Refusals) (r : Result X NoTruth) → IsAnswer Says value (RefusedOnly before now) r → IsUsed before now
answer_used Says value before now (Ok x) is = used_same before now is.0
answer_used Says value before now (Err (stop.Fault failed)) (inl is) = used_same before now is.0
answer_used Says value before now (Err (stop.Fault failed)) (inr is) = used_one before now (Some is.0) is.1
answer_used Says value before now (Err stop.NoMemory) none = used_same before now none
