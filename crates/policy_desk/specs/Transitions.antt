-- What calls and publishes do to a desk.
use Rattle.std.specs.Prelude.{◌≡◌, ℕ, ◌+◌, List, [], ◌++◌, length}
use Rattle.edit_calls.specs.Answers.{CallAnswer}
use Rattle.policy_desk.specs.Answers.{drafts_after, pending_after}
use Rattle.policy_desk.specs.Desks.{Work, floor_after}
use Rattle.policy_state.specs.States.{State, StandsFor, tables}
use Rattle.policy_table.specs.Tables.{Policy}
use Rattle.policy_table.specs.declared.change.Change.{Change}
use Rattle.version_log.specs.Log.{versions}

-- a call with this answer was made: its edit, where it has one, is pending and made in the drafts, and nothing else changed
abbrev pub after_call : CallAnswer → Work → Work
after_call answered desk = record desk { pending = pending_after answered desk.pending; drafts = drafts_after answered desk.drafts }

-- the policy is as it was, its room aside
pub record IsSame (before now : State) : Type 0 where
  pub shapes : now.shapes ≡ before.shapes
  pub key : now.key ≡ before.key
  pub start : now.log.start ≡ before.log.start
  pub tail : now.log.tail ≡ before.log.tail
  pub tables_are : tables now ≡ tables before
  pub stands : (opening : Policy) (history : List (List Change)) → StandsFor before opening history → StandsFor now opening history

-- the policy has these edits behind the others
pub record HasMore (edits : List (List Change)) (before now : State) : Type 0 where
  pub shapes : now.shapes ≡ before.shapes
  pub key : now.key ≡ before.key
  pub stands : (opening : Policy) (history : List (List Change)) → StandsFor before opening history → StandsFor now opening (history ++ edits)
  pub more : versions now.log ≡ versions before.log + length edits

-- a publish was begun, or refused: the floor is raised, and nothing else changed
pub record IsBegun (before now : Work) : Type 0 where
  pub state : IsSame before.state now.state
  pub others : now ≡ record before { state = now.state; floor = floor_after before }

-- a publish was made: the policy has the pending edits behind the others, its tables are the drafts, its log starts at the
-- floor, which is now this one, none is pending, and nothing else changed
pub record IsPublished (floor : ℕ) (before now : Work) : Type 0 where
  pub state : HasMore before.pending before.state now.state
  pub tables_are : tables now.state ≡ before.drafts
  pub start : now.state.log.start ≡ floor
  pub others : now ≡ record before { state = now.state; pending = []; floor = floor }
