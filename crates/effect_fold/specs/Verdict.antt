-- The verdict that a policy's effect gives for the outcomes of its rows, taken in order (Casbin, policy effects).
use Rattle.std.specs.Prelude.{ℕ, Bool, true, false, List, Option, Some, None, find}
use Rattle.effect_fold.specs.declared.effect.Effect.{Effect}
use Rattle.effect_fold.specs.declared.effect.Effect.TheVariants as effect
use Rattle.effect_fold.specs.declared.outcome.Outcome.{Outcome}
use Rattle.effect_fold.specs.declared.outcome.Outcome.TheVariants.{Unmatched, Matched, Failed}
use Rattle.effect_fold.specs.declared.verdict.Verdict.{Verdict}
use Rattle.effect_fold.specs.declared.verdict.Verdict.TheVariants.{Allow, Deny, Fault}

-- the outcome of a row, or of the one evaluation that goes with no row
abbrev pub Taken : Type 0
Taken = Option ℕ × Outcome

-- the row with this number came to this outcome
abbrev pub at_row : ℕ → Outcome → Taken
at_row number outcome = (Some number, outcome)

-- whether a match with allow (true) or deny settles the effect
abbrev pub settles : Effect → Bool → Bool
settles effect.AllowOverride allow = allow
settles effect.DenyOverride true = false
settles effect.DenyOverride false = true
settles effect.AllowAndDeny true = false
settles effect.AllowAndDeny false = true
settles effect.Priority allow = true
settles effect.SubjectPriority allow = true

-- an outcome that ends the evaluation: a fault, or a match that settles the effect
abbrev pub ends_with : Effect → Outcome → Bool
ends_with e Unmatched = false
ends_with e (Matched allow) = settles e allow
ends_with e (Failed fault) = true

abbrev pub ends : Effect → Taken → Bool
ends e taken = ends_with e taken.1

-- a match with allow
abbrev pub is_allow : Outcome → Bool
is_allow Unmatched = false
is_allow (Matched allow) = allow
is_allow (Failed fault) = false

abbrev pub allows : Taken → Bool
allows taken = is_allow taken.1

-- allow by the first match with allow, or deny without a row
abbrev pub allow_by : Option Taken → Verdict
allow_by (Some taken) = Allow taken.0
allow_by None = Deny None

-- where no outcome ends the evaluation
abbrev pub unsettled : Effect → List Taken → Verdict
unsettled effect.AllowOverride outcomes = Deny None
unsettled effect.DenyOverride outcomes = Allow None
unsettled effect.AllowAndDeny outcomes = allow_by (find allows outcomes)
unsettled effect.Priority outcomes = Deny None
unsettled effect.SubjectPriority outcomes = Deny None

-- the row at which the evaluation ends says the verdict
abbrev pub settled_by : Option ℕ → Outcome → Verdict
settled_by row (Failed fault) = Fault row fault
settled_by row (Matched true) = Allow row
settled_by row (Matched false) = Deny row
settled_by row Unmatched = Deny None

abbrev pub verdict_at : Effect → List Taken → Option Taken → Verdict
verdict_at e outcomes (Some taken) = settled_by taken.0 taken.1
verdict_at e outcomes None = unsettled e outcomes

-- the verdict of the outcomes: that of the first one that ends the evaluation, or else that of the effect
abbrev pub verdict : Effect → List Taken → Verdict
verdict e outcomes = verdict_at e outcomes (find (ends e) outcomes)
