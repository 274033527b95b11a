-- What a row lacks, part by part.
use Rattle.std.proofs.Common.{◌≡◌, inl, inr, ℕ, ◌+◌, ◌<◌, ◌≤◌, Bool, List, [], ◌∷◌, ◌++◌, drop, get_or, length, take, Option, Some, None, Result, Ok, Err, refl, sym, ◌∙◌, subst, arith}
use Rattle.std.proofs.lemmas.List.{length-take, take_all}
use Rattle.effect_fold.specs.declared.fault.Fault.{Fault}
use Rattle.matcher_read.specs.Expression.{Expression}
use Rattle.model_conf.specs.ModelText.{ModelParts}
use Rattle.perm_base.specs.declared.shapes.Shapes.{Shapes}
use Rattle.perm_value.specs.Datum.{Datum}
use Rattle.perm_value.specs.Datum as datums
use Rattle.perm_value.specs.Seen.{datum_of_view}
use Rattle.perm_value.specs.declared.value.View.{View}
use Rattle.perm_value.specs.declared.value.View.TheVariants as view
use Rattle.policy_table.specs.Tables.{Fields, Policy}
use Rattle.regex_gate.specs.Refusals.{Refusals, RefusedOnly, IsRefused, IsUsed}
use Rattle.regex_gate.proofs.CallerLemmas.{refused_once, used_one, used_same}
use Rattle.matcher_meaning.specs.Cases.{Case, where_refused}
use Rattle.matcher_meaning.specs.Comes.{TruthIs}
use Rattle.matcher_code.specs.Compiled.{as_answer}
use Rattle.matcher_code.specs.Rules.{CodeParts}
use Rattle.matcher_code.specs.RunEnds.{IsValueOf}
use Rattle.matcher_code.specs.declared.op.Op.{Op}
use Rattle.matcher_code.specs.declared.no_truth.NoTruth.{NoTruth}
use Rattle.matcher_code.specs.declared.no_truth.NoTruth.TheVariants as stop
use Rattle.near_miss.specs.Misses.{HaveTruths, Lacks, case_at, lacking}
use Rattle.near_miss.specs.Helps.Codes.{IsCodeOf}
use Rattle.near_miss.specs.Helps.Rows.{IsSeen, IsTruthGiven, StandsFor, lack_of, standing_with, truth_in}
use Rattle.near_miss.specs.declared.row.Standing.{Standing}
use Rattle.near_miss.specs.declared.row.Standing.TheVariants as standing
use Rattle.near_miss.proofs.ListLemmas.{zip_length, zip_more, zip_some, zip_weaker, zip_whole}
use Rattle.near_miss.proofs.StandingLemmas.{lack_is, stands_more}

-- ---- what a run gives

truth_in_is : (v : View) (b : Bool) → datum_of_view v ≡ datums.truth b → truth_in v ≡ b
truth_in_is (view.Truth c) b e = cc
truth_in_is (view.Text bytes) b e = absurd cc
truth_in_is (view.Whole n) b e = absurd cc
truth_in_is (view.List values) b e = absurd cc
truth_in_is (view.Object members) b e = absurd cc
truth_in_is view.Nothing b e = absurd cc

-- the truth that a run gives
pub truth_given : (case : Case) (code : CodeParts) → IsCodeOf case.model code → (Refused : Option (List ℕ) → Type 0) (IsBad : List ℕ → Type 0) (v : View) (b : Bool) → b ≡ truth_in v → IsValueOf case code.ops Refused (Ok v) → IsTruthGiven case IsBad (Ok b)
truth_given case code of_model Refused IsBad v b is (none, comes) =
    let said = of_model.truth (where_refused case None) (Ok (datum_of_view v)) refl comes in
    by said.0 said.1 said.2
  where
    by : (t : Result Bool Fault) → Ok (datum_of_view v) ≡ as_answer t → TruthIs (where_refused case None) case.model.matcher t → IsTruthGiven case IsBad (Ok b)
    by (Ok c) e truth = let d : datum_of_view v ≡ datums.truth c = cc in (c, is ∙ truth_in_is v c d, truth)
    by (Err fault) e truth = absurd cc

fault_said : (t : Result Bool Fault) (failed : Fault) → Err failed ≡ as_answer t → t ≡ Err failed
fault_said (Ok b) failed e = absurd cc
fault_said (Err fault) failed e = cc

-- or the fault
pub fault_given : (case : Case) (code : CodeParts) → IsCodeOf case.model code → (Refused : Option (List ℕ) → Type 0) (IsBad : List ℕ → Type 0) → ((pattern : List ℕ) → Refused (Some pattern) → IsBad pattern) → (failed : Fault)
    → IsValueOf case code.ops Refused (Err (stop.Fault failed)) → IsTruthGiven case IsBad (Err failed)
fault_given case code of_model Refused IsBad more failed (inl (none, comes)) =
    let said = of_model.truth (where_refused case None) (Err failed) refl comes in
    inl (subst (λ (t : Result Bool Fault). TruthIs (where_refused case None) case.model.matcher t) (fault_said said.0 failed said.1) said.2)
fault_given case code of_model Refused IsBad more failed (inr (pattern, bad, cause, comes)) =
    let said = of_model.truth (where_refused case (Some (failed.at, pattern))) (Err failed) refl comes in
    inr (pattern, more pattern bad, cause, subst (λ (t : Result Bool Fault). TruthIs (where_refused case (Some (failed.at, pattern))) case.model.matcher t) (fault_said said.0 failed said.1) said.2)

-- what the finder refused in a run
pub value_used : (case : Case) (ops : List Op) (before now : Refusals) (r : Result View NoTruth) → IsValueOf case ops (RefusedOnly before now) r → IsUsed before now
value_used case ops before now (Ok v) is = used_same before now is.0
value_used case ops before now (Err (stop.Fault failed)) (inl is) = used_same before now is.0
value_used case ops before now (Err (stop.Fault failed)) (inr is) = used_one before now (Some is.0) is.1
value_used case ops before now (Err stop.NoMemory) none = used_same before now none

pub once : (before now : Refusals) (pattern : List ℕ) → RefusedOnly before now (Some pattern) → IsRefused before now pattern
once before now pattern is = refused_once before now pattern is

-- ---- the parts of a row

truth_for_more : (case : Case) (IsBad IsBadToo : List ℕ → Type 0) (t : Result Bool Fault) → ((pattern : List ℕ) → IsBad pattern → IsBadToo pattern) → IsTruthGiven case IsBad t → IsTruthGiven case IsBadToo t
truth_for_more case IsBad IsBadToo (Ok b) more is = is
truth_for_more case IsBad IsBadToo (Err failed) more (inl is) = inl is
truth_for_more case IsBad IsBadToo (Err failed) more (inr (pattern, bad, cause, is)) = inr (pattern, more pattern bad, cause, is)

-- every expression comes to a truth
abbrev pub SomeTruth : Type 0
SomeTruth = (case : Case) (e : Expression) → (t : Result Bool Fault) × TruthIs case e t

truth_there : SomeTruth → (IsBad : List ℕ → Type 0) (case : Case) → (t : Result Bool Fault) × IsTruthGiven case IsBad t
truth_there there IsBad case = let some = there (where_refused case None) case.model.matcher in by some.0 some.1
  where
    by : (t : Result Bool Fault) → TruthIs (where_refused case None) case.model.matcher t → (t : Result Bool Fault) × IsTruthGiven case IsBad t
    by (Ok b) is = (Ok b, (b, refl, is))
    by (Err failed) is = (Err failed, inl is)

module _ (shapes : Shapes) (policy : Policy) (request : List Datum) where
  -- a truth of a part at a row
  abbrev IsPartTruth : (List ℕ → Type 0) → Fields → ModelParts → Result Bool Fault → Type 0
  IsPartTruth IsBad fields part truth = IsTruthGiven (case_at shapes policy request fields part) IsBad truth

  pub seen_none : (IsBad : List ℕ → Type 0) (parts : List ModelParts) (fields : Fields) → IsSeen shapes policy request IsBad parts fields 0 standing.AllHold
  seen_none IsBad parts fields = record { truths = []; have = tt; is = refl }

  -- one part more, which may have been refused a search
  pub seen_more : (IsBad IsOwn IsBadToo : List ℕ → Type 0) (parts : List ModelParts) (fields : Fields) (at : ℕ) (s : Standing) (part : ModelParts) (t : Result Bool Fault) → at < length parts → part ≡ get_or parts at part
      → ((pattern : List ℕ) → IsBad pattern → IsBadToo pattern) → ((pattern : List ℕ) → IsOwn pattern → IsBadToo pattern) → IsSeen shapes policy request IsBad parts fields at s → IsTruthGiven (case_at shapes policy request fields part) IsOwn t
      → IsSeen shapes policy request IsBadToo parts fields (at + 1) (standing_with s at t)
  seen_more IsBad IsOwn IsBadToo parts fields at s part t within is more own so truth =
      let long : length so.truths ≡ at = zip_length (IsPartTruth IsBad fields) (take at parts) so.truths so.have ∙ front_long in
      record {
        truths = so.truths ++ t ∷ [];
        have = zip_more (IsPartTruth IsBadToo fields) parts so.truths at part t within is (truth_for_more (case_at shapes policy request fields part) IsOwn IsBadToo t own truth)
            (zip_weaker (IsPartTruth IsBad fields) (IsPartTruth IsBadToo fields) (take at parts) so.truths (λ p u. truth_for_more (case_at shapes policy request fields p) IsBad IsBadToo u more) so.have);
        is = subst (λ (n : ℕ). StandsFor (so.truths ++ t ∷ []) (standing_with s n t)) long (stands_more so.truths s t so.is);
      }
    where
      front_long : length (take at parts) ≡ at
      front_long = simp length-take (omega arith)

  -- behind the last part
  pub lacks_whole : (IsBad : List ℕ → Type 0) (parts : List ModelParts) (fields : Fields) (at : ℕ) (s : Standing) → length parts ≤ at → IsSeen shapes policy request IsBad parts fields at s → Lacks shapes policy request IsBad parts fields (lack_of s)
  lacks_whole IsBad parts fields at s past so =
      (so.truths, subst (λ (front : List ModelParts). HaveTruths shapes policy request IsBad front fields so.truths) (take_all at parts past) so.have, lack_is so.truths s so.is)

  -- where neither all hold nor one lacks, the further parts do not matter
  pub lacks_nothing : SomeTruth → (IsBad : List ℕ → Type 0) (parts : List ModelParts) (fields : Fields) (at : ℕ) (s : Standing) → s ≡ standing.Other → IsSeen shapes policy request IsBad parts fields at s → Lacks shapes policy request IsBad parts fields None
  lacks_nothing there IsBad parts fields at s other so =
      let rest = zip_some (IsPartTruth IsBad fields) (λ part. truth_there there IsBad (case_at shapes policy request fields part)) (drop at parts) in
      let stands = subst (λ (t : Standing). StandsFor so.truths t) other so.is in
      (so.truths ++ rest.0, zip_whole (IsPartTruth IsBad fields) parts so.truths rest.0 at so.have rest.1, sym (stands rest.0))

  -- each row lacks something or nothing
  pub lacks_there : SomeTruth → (IsBad : List ℕ → Type 0) (parts : List ModelParts) (fields : Fields) → (lack : Option ℕ) × Lacks shapes policy request IsBad parts fields lack
  lacks_there there IsBad parts fields =
      let all = zip_some (IsPartTruth IsBad fields) (λ part. truth_there there IsBad (case_at shapes policy request fields part)) parts in
      (lacking all.0, (all.0, all.1, refl))

  pub lacks_for_more : (IsBad IsBadToo : List ℕ → Type 0) (parts : List ModelParts) (fields : Fields) (lack : Option ℕ) → ((pattern : List ℕ) → IsBad pattern → IsBadToo pattern) → Lacks shapes policy request IsBad parts fields lack → Lacks shapes policy request IsBadToo parts fields lack
  lacks_for_more IsBad IsBadToo parts fields lack more (truths, have, is) =
      (truths, zip_weaker (IsPartTruth IsBad fields) (IsPartTruth IsBadToo fields) parts truths (λ part t. truth_for_more (case_at shapes policy request fields part) IsBad IsBadToo t more) have, is)
