-- What contracts see of a desk: the published policy, the edits that are pending, and the tables after them (Casbin, management
-- API; here its calls wait for a publish).
use Rattle.std.specs.Prelude.{◌≡◌, ℕ, ◌+◌, ◌-◌, ◌≤◌, max, List, Option, length}
use Rattle.std.specs.Option.{option_map_or}
use Rattle.edit_calls.specs.Admitted.{AreAdmitted}
use Rattle.policy_state.specs.States.{State, tables}
use Rattle.policy_table.specs.Changes.{replay}
use Rattle.policy_table.specs.Limits.{AreSound}
use Rattle.policy_table.specs.Tables.{Policy}
use Rattle.policy_table.specs.declared.change.Change.{Change}
use Rattle.version_log.specs.Log.{most_versions, versions}

-- the published state, the pending edits, the drafts, how many edits are to be kept (none until it is said), and the version
-- before which edits may be let go
pub record Work : Type 0 where
  pub state : State
  pub pending : List (List Change)
  pub drafts : Policy
  pub kept : Option ℕ
  pub floor : ℕ

-- how many edits are published and pending
abbrev pub edits_of : Work → ℕ
edits_of desk = versions desk.state.log + length desk.pending

-- the floor after a publish: where edits are to be kept, the version before it less their number, unless the floor is above that
abbrev pub floor_after : Work → ℕ
floor_after desk = option_map_or (λ (edits : ℕ). max desk.floor (versions desk.state.log - edits)) desk.kept desk.floor

-- what a desk keeps: its drafts are the published tables after the pending edits and are sound, each pending edit is admitted
-- in the tables before it, all of them may be published, and the floor is a version between the log's start and its last
pub record IsDesk (desk : Work) : Type 0 where
  pub drafts : desk.drafts ≡ replay desk.pending (tables desk.state)
  pub sound : AreSound desk.state.shapes desk.drafts
  pub admitted : AreAdmitted desk.state.shapes (tables desk.state) desk.pending
  pub few : edits_of desk ≤ most_versions
  pub from : desk.state.log.start ≤ desk.floor
  pub until : desk.floor ≤ versions desk.state.log
