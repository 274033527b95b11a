-- Helps for proofs: what a fold knows behind the outcomes that it took, one by one.
use Rattle.std.specs.Prelude.{ℕ, if◌then◌else◌, List, [], ◌∷◌, Option, Some, None}
use Rattle.effect_fold.specs.Verdict.{Taken, ends_with, is_allow, settled_by}
use Rattle.effect_fold.specs.declared.effect.Effect.{Effect}
use Rattle.effect_fold.specs.declared.effect.Effect.TheVariants as effect
use Rattle.effect_fold.specs.declared.outcome.Outcome.{Outcome}
use Rattle.effect_fold.specs.declared.verdict.Verdict.{Verdict}
use Rattle.effect_fold.specs.declared.verdict.Verdict.TheVariants.{Allow, Deny}

-- the effect, the row of the first match with allow, and the verdict once it is settled
pub record Progress : Type 0 where
  pub effect : Effect
  pub allowed : Option (Option ℕ)
  pub settled : Option Verdict

-- of these parts
abbrev pub progress : Effect → Option (Option ℕ) → Option Verdict → Progress
progress e allowed settled = record { effect = e; allowed = allowed; settled = settled }

-- before any outcome
abbrev pub begun : Effect → Progress
begun e = progress e None None

-- the first of two rows
abbrev pub first_row : Option (Option ℕ) → Option ℕ → Option (Option ℕ)
first_row None row = Some row
first_row (Some first) row = Some first

-- behind one outcome more, while nothing is settled
abbrev pub open_taken : Effect → Option (Option ℕ) → Option ℕ → Outcome → Progress
open_taken e allowed row outcome =
    if ends_with e outcome then progress e allowed (Some (settled_by row outcome))
    else progress e (if is_allow outcome then first_row allowed row else allowed) None

-- behind one outcome more; once the verdict is settled, no outcome changes it
abbrev pub taken_by : Effect → Option (Option ℕ) → Option Verdict → Option ℕ → Outcome → Progress
taken_by e allowed (Some v) row outcome = progress e allowed (Some v)
taken_by e allowed None row outcome = open_taken e allowed row outcome

abbrev pub taken : Progress → Option ℕ → Outcome → Progress
taken p row outcome = taken_by p.effect p.allowed p.settled row outcome

-- behind these outcomes, from what is known before them
abbrev pub behind : Progress → List Taken → Progress
behind p [] = p
behind p (first ∷ others) = behind (taken p first.0 first.1) others

-- the verdict where nothing is settled
abbrev pub open_end : Effect → Option (Option ℕ) → Verdict
open_end effect.AllowOverride allowed = Deny None
open_end effect.DenyOverride allowed = Allow None
open_end effect.AllowAndDeny (Some row) = Allow row
open_end effect.AllowAndDeny None = Deny None
open_end effect.Priority allowed = Deny None
open_end effect.SubjectPriority allowed = Deny None

abbrev pub ended_by : Effect → Option (Option ℕ) → Option Verdict → Verdict
ended_by e allowed (Some v) = v
ended_by e allowed None = open_end e allowed

-- the verdict behind what was taken
abbrev pub ended : Progress → Verdict
ended p = ended_by p.effect p.allowed p.settled
