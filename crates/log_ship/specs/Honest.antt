-- Packets that tell a leader's history, and followers that hold a front of it.
use Rattle.std.specs.Prelude.{◌≡◌, ℕ, ◌+◌, ◌-◌, ◌<◌, ◌≤◌, Bool, true, false, ◌==◌, ◌||◌, List, length, take, Some, Ok, Err, ⊤, slice_get}
use Rattle.std.specs.List.{AllByRecursion}
use Rattle.edit_calls.specs.Admitted.{AreAdmitted}
use Rattle.log_ship.specs.Followers.{Following, Held, IsFollowing, version_of}
use Rattle.log_ship.specs.Taken.{TakeAnswer, waits}
use Rattle.log_ship.specs.declared.packet.Packet.{Packet}
use Rattle.log_ship.specs.declared.taken.Taken.TheVariants.{Repeated, Waiting, Applied}
use Rattle.log_ship.specs.declared.taken.TakeRefused.TheVariants.{TooFar, Malformed, Misfit, NoMemory}
use Rattle.perm_base.specs.declared.shapes.Shapes.{Shapes}
use Rattle.policy_state.specs.States.{StandsFor}
use Rattle.policy_table.specs.Limits.{AreSound}
use Rattle.policy_table.specs.Tables.{Policy}
use Rattle.policy_table.specs.declared.change.Change.{Change}
use Rattle.version_log.specs.EditText.{IsEditText}
use Rattle.version_log.specs.Log.{most_versions}

-- a history of edits from opening tables of these shapes: each is admitted in the tables after those before it, and there are
-- not too many
pub record IsHistory (shapes : Shapes) (opening : Policy) (history : List (List Change)) : Type 0 where
  pub sound : AreSound shapes opening
  pub admitted : AreAdmitted shapes opening history
  pub few : length history ≤ most_versions

-- the edit of this number in the history, numbered from 1
pub record IsNumbered (history : List (List Change)) (number : ℕ) (edit : List Change) : Type 0 where
  pub some : 0 < number
  pub there : slice_get history (number - 1) ≡ Some edit

-- the packet's text is that of the history's edit of its number
pub record IsHonest (history : List (List Change)) (packet : Packet) : Type 0 where
  pub edit : List Change
  pub is : IsNumbered history packet.number edit
  pub text : IsEditText packet.text edit

-- the follower holds a front of the history: its policy stands for the first edits, as many as its version, and the edits that
-- wait are the history's
pub record Follows (opening : Policy) (history : List (List Change)) (follower : Following) : Type 0 where
  pub kept : IsFollowing follower
  pub stands : StandsFor follower.state opening (take (version_of follower) history)
  pub waiting : AllByRecursion (λ (held : Held). IsNumbered history held.number held.edit) follower.waiting

-- the answer is neither that the text is no edit nor that it does not fit
abbrev pub IsFair : TakeAnswer → Type 0
IsFair (Ok taken) = ⊤
IsFair (Err (TooFar version)) = ⊤
IsFair (Err (Malformed line)) = ⊥
IsFair (Err Misfit) = ⊥
IsFair (Err NoMemory) = ⊤

-- the number is the packet's, or waits
abbrev pub has_come : Following → ℕ → ℕ → Bool
has_come follower packet number = (packet == number) || waits number follower.waiting

-- the least version from this one on whose next number has not come
pub record IsLeastLeft (before : Following) (packet version : ℕ) : Type 0 where
  pub from : version_of before ≤ version
  pub none : has_come before packet (version + 1) ≡ false
  pub least : (other : ℕ) → version_of before ≤ other → other < version → has_come before packet (other + 1) ≡ true

-- that is the version where the packet is applied
abbrev pub AppliesLeast : Following → Packet → TakeAnswer → Following → Type 0
AppliesLeast before packet (Ok (Applied version)) now = (version_of now ≡ version) × IsLeastLeft before packet.number version
AppliesLeast before packet (Ok Repeated) now = ⊤
AppliesLeast before packet (Ok Waiting) now = ⊤
AppliesLeast before packet (Err refused) now = ⊤
