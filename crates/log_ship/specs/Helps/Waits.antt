-- Edits that wait, as they are kept: their numbers beside them.
use Rattle.std.specs.Prelude.{◌≡◌, ℕ, ◌+◌, ◌==◌, if◌then◌else◌, suc, List, [], ◌∷◌, Option, IfSome}
use Rattle.log_ship.specs.Followers.{Following, Held, IsFollowing}
use Rattle.log_ship.specs.Taken.{admitted, run_from}
use Rattle.policy_state.specs.States.{State, tables}
use Rattle.policy_table.specs.Held.{Held as HeldTables}
use Rattle.policy_table.specs.declared.change.Change.{Change}
use Rattle.version_log.specs.Log.{versions}

-- edits beside their numbers
abbrev pub held_by : List ℕ → List (List Change) → List Held
held_by [] edits = []
held_by (number ∷ numbers) [] = []
held_by (number ∷ numbers) (edit ∷ edits) = record { number = number; edit = edit } ∷ held_by numbers edits

-- how many numbers in front are this one and those that follow without a gap
abbrev pub run_len : ℕ → List ℕ → ℕ
run_len next [] = 0
run_len next (number ∷ numbers) = if number == next then suc (run_len (next + 1) numbers) else 0

-- the drafts, where there are some, are the policy's tables
abbrev pub AreDrafts : State → Option HeldTables → Type 0
AreDrafts state drafts = IfSome drafts (λ (drafts : HeldTables). drafts.policy ≡ tables state)

-- what a follower keeps beside what contracts see of it
pub record IsKept (follower : Following) (drafts : Option HeldTables) : Type 0 where
  pub following : IsFollowing follower
  pub tables : AreDrafts follower.state drafts

-- the edits that wait from the number of the next version on without a gap, and the longest front of them that is admitted
abbrev pub next_run : State → List Held → List (List Change)
next_run state waiting = run_from (versions state.log + 1) waiting

abbrev pub next_front : State → List Held → List (List Change)
next_front state waiting = admitted state.shapes (tables state) (next_run state waiting)
