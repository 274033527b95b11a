-- What contracts see of a follower: its policy, and the edits that wait for those before them, by rising number.
use Rattle.std.specs.Prelude.{◌≡◌, ℕ, ◌+◌, ◌<◌, ◌≤◌, List, [], ◌∷◌, ⊤}
use Rattle.std.specs.List.{AllByRecursion}
use Rattle.policy_state.specs.States.{State, tables}
use Rattle.policy_table.specs.declared.change.Change.{Change}
use Rattle.version_log.specs.Log.{most_versions, versions}

-- an edit and its number
pub record Held : Type 0 where
  pub number : ℕ
  pub edit : List Change

pub record Following : Type 0 where
  pub state : State
  pub waiting : List Held

-- how many edits the policy has
abbrev pub version_of : Following → ℕ
version_of follower = versions follower.state.log

-- the numbers rise from above this one
abbrev pub Rises : ℕ → List Held → Type 0
Rises low [] = ⊤
Rises low (held ∷ others) = (low < held.number) × Rises held.number others

-- what a follower keeps: the edits that wait are not the next one, each has a number of its own, and none is above that of the
-- last possible version
pub record IsFollowing (follower : Following) : Type 0 where
  pub rises : Rises (version_of follower + 1) follower.waiting
  pub few : AllByRecursion (λ (held : Held). held.number ≤ most_versions) follower.waiting

-- the policy is as it was, its room aside
pub record IsSameState (before now : State) : Type 0 where
  pub shapes : now.shapes ≡ before.shapes
  pub key : now.key ≡ before.key
  pub start : now.log.start ≡ before.log.start
  pub tail : now.log.tail ≡ before.log.tail
  pub tables_are : tables now ≡ tables before

-- the follower is as it was, the room of its policy aside
pub record IsSame (before now : Following) : Type 0 where
  pub state : IsSameState before.state now.state
  pub waiting : now.waiting ≡ before.waiting
