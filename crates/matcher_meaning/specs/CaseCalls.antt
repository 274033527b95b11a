-- What calls give for the values of their arguments, role relations being asked of the tables (Casbin, functions in matchers; RBAC). The place is the call's.
use Rattle.std.specs.Prelude.{◌≡◌, ℕ, List, [], ◌∷◌, Option, Some, None}
use Rattle.effect_fold.specs.declared.fault.Cause.TheVariants.{Kind}
use Rattle.matcher_read.specs.Expression.{Callee, function, relation, unknown}
use Rattle.perm_value.specs.Datum.{Datum}
use Rattle.matcher_meaning.specs.Answers.{Evaluation, fails}
use Rattle.matcher_meaning.specs.Calls.{IsWhether, OfTwo, OfThree, texts_of}
use Rattle.matcher_meaning.specs.Cases.{Case, IsLinkedBy}

-- whether a relation links the one name to the other
abbrev pub IsLink : Case → ℕ → List ℕ → List ℕ → Option (List ℕ) → Evaluation → Type 0
IsLink case number x y domain r = IsWhether (IsLinkedBy case.shapes case.policy number x y domain) r

-- a call with two arguments that are texts
abbrev pub GivesForTwo : Case → ℕ → Callee → List ℕ → List ℕ → Evaluation → Type 0
GivesForTwo case at (function called) s t r = OfTwo case.refused at called s t r
GivesForTwo case at (relation number) s t r = IsLink case number s t None r
GivesForTwo case at (unknown parts) s t r = r ≡ fails Kind at

-- a call with three arguments that are texts
abbrev pub GivesForThree : Case → ℕ → Callee → List ℕ → List ℕ → List ℕ → Evaluation → Type 0
GivesForThree case at (function called) s t u r = OfThree at called s t u r
GivesForThree case at (relation number) s t u r = IsLink case number s t (Some u) r
GivesForThree case at (unknown parts) s t u r = r ≡ fails Kind at

-- what a call gives for its arguments as texts, or none where one is no text: any but two or three texts are of another kind
abbrev pub GivesForTexts : Case → ℕ → Callee → Option (List (List ℕ)) → Evaluation → Type 0
GivesForTexts case at callee (Some (s ∷ t ∷ [])) r = GivesForTwo case at callee s t r
GivesForTexts case at callee (Some (s ∷ t ∷ u ∷ [])) r = GivesForThree case at callee s t u r
GivesForTexts case at callee _ r = r ≡ fails Kind at

-- what a call gives for the values of its arguments
abbrev pub Gives : Case → ℕ → Callee → List Datum → Evaluation → Type 0
Gives case at callee ds r = GivesForTexts case at callee (texts_of ds) r
