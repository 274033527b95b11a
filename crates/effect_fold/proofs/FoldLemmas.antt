-- A fold over outcomes ends in their verdict.
use Rattle.std.proofs.Common.{◌≡◌, ℕ, Bool, true, false, cond, List, [], ◌∷◌, ◌++◌, Option, Some, None, is_some, find, refl, sym, ap, ◌∙◌}
use Rattle.effect_fold.specs.Verdict.{Taken, ends, ends_with, allows, is_allow, settled_by, unsettled, allow_by, verdict, verdict_at}
use Rattle.effect_fold.specs.Helps.Progress.{Progress, progress, begun, first_row, behind, open_end, ended, taken}
use Rattle.effect_fold.specs.Folds.{HasTaken, is_settled}
use Rattle.effect_fold.specs.declared.outcome.Outcome.{Outcome}
use Rattle.effect_fold.specs.declared.effect.Effect.{Effect}
use Rattle.effect_fold.specs.declared.effect.Effect.TheVariants as effect
use Rattle.effect_fold.specs.declared.verdict.Verdict.{Verdict}

stays : (e : Effect) (allowed : Option (Option ℕ)) (v : Verdict) (outcomes : List Taken) → behind (progress e allowed (Some v)) outcomes ≡ progress e allowed (Some v)
stays e allowed v [] = refl
stays e allowed v (first ∷ others) = stays e allowed v others

-- the row of a match with allow that was met before, or else of this one
row_or : Option (Option ℕ) → Option Taken → Option (Option ℕ)
row_or (Some row) found = Some row
row_or None (Some found) = Some found.0
row_or None None = None

-- the verdict of outcomes behind such a match
answer : Effect → Option (Option ℕ) → List Taken → Option Taken → Verdict
answer e allowed outcomes (Some found) = settled_by found.0 found.1
answer e allowed outcomes None = open_end e (row_or allowed (find allows outcomes))

-- one outcome that ends nothing
row_more : (allowed : Option (Option ℕ)) (first : Taken) (later : Option Taken) (b : Bool) → row_or (cond b (first_row allowed first.0) allowed) later ≡ row_or allowed (cond b (Some first) later)
unfolding row_or
row_more (Some row) first later true = refl
row_more (Some row) first later false = refl
row_more None first later true = refl
row_more None first later false = refl

later_answer : (e : Effect) (allowed : Option (Option ℕ)) (first : Taken) (others : List Taken) (o : Option Taken)
    → answer e (cond (is_allow first.1) (first_row allowed first.0) allowed) others o ≡ answer e allowed (first ∷ others) o
unfolding answer
later_answer e allowed first others (Some found) = refl
later_answer e allowed first others None = ap (open_end e) (row_more allowed first (find allows others) (is_allow first.1))

folds : (e : Effect) (allowed : Option (Option ℕ)) (outcomes : List Taken) → ended (behind (progress e allowed None) outcomes) ≡ answer e allowed outcomes (find (ends e) outcomes)
unfolding answer row_or
folds e None [] = refl
folds e (Some row) [] = refl
folds e allowed (first ∷ others) = by_end (folds e (cond (is_allow first.1) (first_row allowed first.0) allowed) others) (ends_with e first.1)
  where
    next : Option (Option ℕ)
    next = cond (is_allow first.1) (first_row allowed first.0) allowed

    by_end : ended (behind (progress e next None) others) ≡ answer e next others (find (ends e) others) → (b : Bool)
        → ended (behind (cond b (progress e allowed (Some (settled_by first.0 first.1))) (progress e next None)) others) ≡ answer e allowed (first ∷ others) (cond b (Some first) (find (ends e) others))
    by_end later true = ap ended (stays e allowed (settled_by first.0 first.1) others)
    by_end later false = later ∙ later_answer e allowed first others (find (ends e) others)

gives_verdict : (e : Effect) (outcomes : List Taken) → ended (behind (begun e) outcomes) ≡ verdict e outcomes
unfolding answer row_or
gives_verdict e outcomes = folds e None outcomes ∙ by_found (find (ends e) outcomes)
  where
    by_allow : (o : Option Taken) → open_end effect.AllowAndDeny (row_or None o) ≡ allow_by o
    by_allow None = refl
    by_allow (Some found) = refl

    by_effect : (e' : Effect) → open_end e' (row_or None (find allows outcomes)) ≡ unsettled e' outcomes
    by_effect effect.AllowOverride = refl
    by_effect effect.DenyOverride = refl
    by_effect effect.AllowAndDeny = by_allow (find allows outcomes)
    by_effect effect.Priority = refl
    by_effect effect.SubjectPriority = refl

    by_found : (o : Option Taken) → answer e None outcomes o ≡ verdict_at e outcomes o
    by_found (Some found) = refl
    by_found None = by_effect e

settles_there : (e : Effect) (allowed : Option (Option ℕ)) (outcomes : List Taken) → is_some (behind (progress e allowed None) outcomes).settled ≡ is_some (find (ends e) outcomes)
settles_there e allowed [] = refl
settles_there e allowed (first ∷ others) = by_end (settles_there e (cond (is_allow first.1) (first_row allowed first.0) allowed) others) (ends_with e first.1)
  where
    next : Option (Option ℕ)
    next = cond (is_allow first.1) (first_row allowed first.0) allowed

    by_end : is_some (behind (progress e next None) others).settled ≡ is_some (find (ends e) others) → (b : Bool)
        → is_some (behind (cond b (progress e allowed (Some (settled_by first.0 first.1))) (progress e next None)) others).settled ≡ is_some (cond b (Some first) (find (ends e) others))
    by_end later true = ap (λ (p : Progress). is_some p.settled) (stays e allowed (settled_by first.0 first.1) others)
    by_end later false = later

behind-append : (p : Progress) (a b : List Taken) → behind p (a ++ b) ≡ behind (behind p a) b
behind-append p [] b = refl
behind-append p (x ∷ a) b = behind-append (taken p x.0 x.1) a b

-- a fold that took nothing
pub took_none : (e : Effect) (fold : Progress) → fold ≡ begun e → HasTaken fold e []
unfolding HasTaken
took_none e fold is = is

took_next : (e : Effect) (outcomes : List Taken) (fold next : Progress) (row : Option ℕ) (outcome : Outcome) → fold ≡ behind (begun e) outcomes → next ≡ taken fold row outcome
    → next ≡ behind (begun e) (outcomes ++ (row, outcome) ∷ [])
took_next e outcomes fold next row outcome is step = step ∙ ap (λ (p : Progress). taken p row outcome) is ∙ sym (behind-append (begun e) outcomes ((row, outcome) ∷ []))

-- one outcome more
pub took_more : (e : Effect) (outcomes : List Taken) (fold next : Progress) (row : Option ℕ) (outcome : Outcome) → next ≡ taken fold row outcome → HasTaken fold e outcomes → HasTaken next e (outcomes ++ (row, outcome) ∷ [])
unfolding HasTaken
took_more e outcomes fold next row outcome step is = took_next e outcomes fold next row outcome is step

-- whether the verdict is settled then
pub took_settled : (e : Effect) (outcomes : List Taken) (fold next : Progress) (row : Option ℕ) (outcome : Outcome) (told : Bool) → next ≡ taken fold row outcome → told ≡ is_some next.settled → HasTaken fold e outcomes
    → told ≡ is_settled e (outcomes ++ (row, outcome) ∷ [])
unfolding HasTaken
took_settled e outcomes fold next row outcome told step known is =
    known ∙ ap (λ (p : Progress). is_some p.settled) (took_next e outcomes fold next row outcome is step) ∙ settles_there e None (outcomes ++ (row, outcome) ∷ [])

-- the end
pub took_end : (e : Effect) (outcomes : List Taken) (fold : Progress) (v : Verdict) → v ≡ ended fold → HasTaken fold e outcomes → v ≡ verdict e outcomes
unfolding HasTaken
took_end e outcomes fold v ends is = ends ∙ ap ended is ∙ gives_verdict e outcomes

settled_stays_so : (e : Effect) (allowed : Option (Option ℕ)) (settled : Option Verdict) (row : Option ℕ) (outcome : Outcome) → is_some settled ≡ true → progress e allowed settled ≡ taken (progress e allowed settled) row outcome
settled_stays_so e allowed (Some v) row outcome some = refl
settled_stays_so e allowed None row outcome some = absurd cc

-- an outcome behind the settled verdict
pub settled_taken : (fold : Progress) (row : Option ℕ) (outcome : Outcome) → is_some fold.settled ≡ true → fold ≡ taken fold row outcome
settled_taken fold row outcome some = settled_stays_so fold.effect fold.allowed fold.settled row outcome some
