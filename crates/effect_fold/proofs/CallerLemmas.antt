-- What a caller's proof cites of lists of outcomes.
use Rattle.std.proofs.Common.{◌≡◌, ℕ, Bool, true, false, true≢false, cond, List, [], ◌∷◌, ◌++◌, Option, Some, None, is_some, find, refl, sym, ap, ◌∙◌}
use Rattle.effect_fold.specs.Verdict.{Taken, ends, settled_by, verdict, verdict_at}
use Rattle.effect_fold.specs.Folds.{is_settled}
use Rattle.effect_fold.specs.declared.effect.Effect.{Effect}
use Rattle.effect_fold.specs.declared.verdict.Verdict.{Verdict}

-- what is found in the first of two lists is found in both
found_first : (test : Taken → Bool) (outcomes others : List Taken) → is_some (find test outcomes) ≡ true → find test (outcomes ++ others) ≡ find test outcomes
found_first test [] others some = absurd (true≢false (sym some))
found_first test (x ∷ outcomes) others some = go (test x) (found_first test outcomes others) some
  where
    go : (b : Bool) → (is_some (find test outcomes) ≡ true → find test (outcomes ++ others) ≡ find test outcomes) → is_some (cond b (Some x) (find test outcomes)) ≡ true
        → cond b (Some x) (find test (outcomes ++ others)) ≡ cond b (Some x) (find test outcomes)
    go true later some = refl
    go false later some = later some

-- what is not found in the first is found in the second
found_second : (test : Taken → Bool) (outcomes others : List Taken) → is_some (find test outcomes) ≡ false → find test (outcomes ++ others) ≡ find test others
found_second test [] others none = refl
found_second test (x ∷ outcomes) others none = go (test x) (found_second test outcomes others) none
  where
    go : (b : Bool) → (is_some (find test outcomes) ≡ false → find test (outcomes ++ others) ≡ find test others) → is_some (cond b (Some x) (find test outcomes)) ≡ false
        → cond b (Some x) (find test (outcomes ++ others)) ≡ find test others
    go true later none = absurd (true≢false none)
    go false later none = later none

by_found : (e : Effect) (outcomes others : List Taken) (found : Option Taken) → is_some found ≡ true → verdict_at e others found ≡ verdict_at e outcomes found
by_found e outcomes others None some = absurd (true≢false (sym some))
by_found e outcomes others (Some x) some = refl

-- once it is settled, no outcome changes the verdict
pub settled_stays : (e : Effect) (outcomes others : List Taken) → is_settled e outcomes ≡ true → verdict e (outcomes ++ others) ≡ verdict e outcomes
settled_stays e outcomes others settled =
    ap (verdict_at e (outcomes ++ others)) (found_first (ends e) outcomes others settled) ∙ by_found e outcomes (outcomes ++ others) (find (ends e) outcomes) settled

found_here : (e : Effect) (x : Taken) → ends e x ≡ true → find (ends e) (x ∷ []) ≡ Some x
found_here e x ending = rw ending refl

-- the first outcome that ends the evaluation settles it
pub ending_settles : (e : Effect) (outcomes : List Taken) (x : Taken) → is_settled e outcomes ≡ false → ends e x ≡ true → is_settled e (outcomes ++ x ∷ []) ≡ true
ending_settles e outcomes x still ending = ap is_some (found_second (ends e) outcomes (x ∷ []) still ∙ found_here e x ending)

-- and says the verdict
pub ending_verdict : (e : Effect) (outcomes : List Taken) (x : Taken) → is_settled e outcomes ≡ false → ends e x ≡ true → verdict e (outcomes ++ x ∷ []) ≡ settled_by x.0 x.1
ending_verdict e outcomes x still ending = ap (verdict_at e (outcomes ++ x ∷ [])) (found_second (ends e) outcomes (x ∷ []) still ∙ found_here e x ending)
