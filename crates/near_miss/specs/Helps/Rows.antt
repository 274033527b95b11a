-- What the steps of judging a row give.
use Rattle.std.specs.Prelude.{◌≡◌, ℕ, Bool, true, false, List, ◌++◌, take, Option, Some, None, Result, Ok, Err}
use Rattle.std.specs.List.{AllZip, list_all}
use Rattle.effect_fold.specs.declared.fault.Fault.{Fault}
use Rattle.model_conf.specs.ModelText.{ModelParts}
use Rattle.perm_base.specs.declared.shapes.Shapes.{Shapes}
use Rattle.perm_base.specs.declared.shapes.TableId.TheVariants.{P}
use Rattle.perm_value.specs.Datum.{Datum}
use Rattle.perm_value.specs.declared.value.View.{View}
use Rattle.perm_value.specs.declared.value.View.TheVariants as view
use Rattle.policy_table.specs.Tables.{Fields, Policy, rows}
use Rattle.matcher_meaning.specs.Cases.{Case}
use Rattle.matcher_meaning.specs.Verdicts.{IsTruthOf}
use Rattle.near_miss.specs.Misses.{HaveTruths, Lacks, holds, lacking, misses_from}
use Rattle.near_miss.specs.declared.misses.NearMiss.{NearMiss}
use Rattle.near_miss.specs.declared.row.Standing.{Standing}
use Rattle.near_miss.specs.declared.row.Standing.TheVariants as standing

-- the truth that a value is; other values are none
abbrev pub truth_in : View → Bool
truth_in (view.Truth b) = b
truth_in (view.Text bytes) = false
truth_in (view.Whole n) = false
truth_in (view.List values) = false
truth_in (view.Object members) = false
truth_in view.Nothing = false

-- the truth of the matcher, as it is
abbrev pub IsTruthGiven : Case → (List ℕ → Type 0) → Result Bool Fault → Type 0
IsTruthGiven case IsBad truth = IsTruthOf (λ b. b) case IsBad truth

-- how parts stand with one more, at this place
abbrev pub standing_with : Standing → ℕ → Result Bool Fault → Standing
standing_with standing.AllHold at (Ok true) = standing.AllHold
standing_with standing.AllHold at (Ok false) = standing.Lacks at
standing_with standing.AllHold at (Err failed) = standing.Other
standing_with (standing.Lacks place) at (Ok true) = standing.Lacks place
standing_with (standing.Lacks place) at (Ok false) = standing.Other
standing_with (standing.Lacks place) at (Err failed) = standing.Other
standing_with standing.Other at truth = standing.Other

-- the part that lacks alone
abbrev pub lack_of : Standing → Option ℕ
lack_of standing.AllHold = None
lack_of (standing.Lacks at) = Some at
lack_of standing.Other = None

-- what a standing says of truths
abbrev pub StandsFor : List (Result Bool Fault) → Standing → Type 0
StandsFor truths standing.AllHold = list_all holds truths ≡ true
StandsFor truths (standing.Lacks at) = lacking truths ≡ Some at
StandsFor truths standing.Other = (others : List (Result Bool Fault)) → lacking (truths ++ others) ≡ None

-- the first parts, so many, stand so for a row
pub record IsSeen (shapes : Shapes) (policy : Policy) (request : List Datum) (IsBad : List ℕ → Type 0) (parts : List ModelParts) (fields : Fields) (at : ℕ) (stands : Standing) : Type 0 where
  pub truths : List (Result Bool Fault)
  pub have : HaveTruths shapes policy request IsBad (take at parts) fields truths
  pub is : StandsFor truths stands

-- the first rows of p, so many, have these near misses, no more than these
pub record IsFound (shapes : Shapes) (policy : Policy) (request : List Datum) (IsBad : List ℕ → Type 0) (parts : List ModelParts) (at : ℕ) (misses : List NearMiss) : Type 0 where
  pub lacks : List (Option ℕ)
  pub have : AllZip (Lacks shapes policy request IsBad parts) (take at (rows policy P)) lacks
  pub are : misses ≡ misses_from 1 lacks
