-- What the finders of a run refused. The first of them alone is asked, but where workers answer: then each worker asks its own.
use Rattle.std.specs.Prelude.{◌≡◌, ◌≤◌, ℕ, MatchBool, Bool, List, [], ◌∷◌, sum_by}
use Rattle.std.specs.List.{AllZip}
use Rattle.live_rounds.specs.Done.{HaveRefused}
use Rattle.loaded_work.specs.Finders.{HasRefused}
use Rattle.refusal_meaning.specs.Unread.{AreUnreadable}
use Rattle.regex_gate.specs.Refusals.{IsUsed, Refusals}
use Rattle.session_meaning.specs.Plain.{all_refused}

-- the first finder refused these patterns, one after the other, and the others are as they were
abbrev pub FirstHasRefused : List Refusals → List Refusals → List (List ℕ) → Type 0
FirstHasRefused [] [] patterns = patterns ≡ []
FirstHasRefused (before ∷ others) (now ∷ nows) patterns = HasRefused before now patterns × (nows ≡ others)
FirstHasRefused _ _ patterns = ⊥

-- each finder refused patterns of its own, and all together refused each of these at least as often, however patterns are weighed
pub record HaveRefusedAll (before now : List Refusals) (patterns : List (List ℕ)) : Type 0 where
  pub more : List (List (List ℕ))
  pub used : HaveRefused before now more
  pub told : (weight : List ℕ → ℕ) → sum_by weight patterns ≤ sum_by weight (all_refused more)

-- the one or the other
abbrev pub Logs : (shared : Bool) → List Refusals → List Refusals → List (List ℕ) → Type 0
Logs shared before now patterns = MatchBool shared (HaveRefusedAll before now patterns) (FirstHasRefused before now patterns)

-- the first finder was used, and no other
abbrev pub IsFirstUsed : List Refusals → List Refusals → Type 0
IsFirstUsed before now = (patterns : List (List ℕ)) × FirstHasRefused before now patterns

-- the finders were used: the first alone, or each by its worker
abbrev pub AreUsed : (shared : Bool) → List Refusals → List Refusals → Type 0
AreUsed shared before now = MatchBool shared (AllZip IsUsed before now) (IsFirstUsed before now)

-- whatever the first finder refused cannot be read
abbrev pub HaveRefusedUnreadable : List Refusals → List Refusals → Type 0
HaveRefusedUnreadable before now = (patterns : List (List ℕ)) → FirstHasRefused before now patterns → AreUnreadable patterns
