-- What a packet does to a follower.
use Rattle.std.specs.Prelude.{◌≡◌, ℕ, ◌+◌, Bool, not, ◌==◌, ◌&&◌, ◌||◌, nat_le, nat_lt, List, [], ◌∷◌, ◌++◌, Result, Ok, Err, if◌then◌else◌, length, drop, min, ⊤}
use Rattle.std.specs.List.{list_all, list_any}
use Rattle.edit_calls.specs.Admitted.{admits, may_stand}
use Rattle.log_ship.specs.Followers.{Following, Held, IsSame, version_of}
use Rattle.log_ship.specs.declared.packet.Packet.{Packet}
use Rattle.log_ship.specs.declared.taken.Taken.{Taken}
use Rattle.log_ship.specs.declared.taken.Taken.TheVariants.{Repeated, Waiting, Applied}
use Rattle.log_ship.specs.declared.taken.TakeRefused.{TakeRefused}
use Rattle.log_ship.specs.declared.taken.TakeRefused.TheVariants.{TooFar, Malformed, Misfit, NoMemory}
use Rattle.perm_base.specs.declared.shapes.Shapes.{Shapes}
use Rattle.policy_state.specs.States.{State, tables}
use Rattle.policy_table.specs.Changes.{edited, replay}
use Rattle.policy_table.specs.Tables.{Policy}
use Rattle.policy_table.specs.declared.change.Change.{Change}
use Rattle.policy_table.specs.declared.change.Change.TheVariants.{Insert, Remove, Replace}
use Rattle.version_log.specs.EditText.{IsEditFault, IsEditText}
use Rattle.version_log.specs.Log.{most_versions}
use Rattle.version_log.specs.declared.edit_fault.EditFault.TheVariants as fault

-- what a text is read as: an edit, or the line at which it is none
abbrev pub TextReading : Type 0
TextReading = Result (List Change) ℕ

abbrev pub Reads : List ℕ → TextReading → Type 0
Reads text (Ok edit) = IsEditText text edit
Reads text (Err line) = IsEditFault text (fault.Malformed line)

abbrev pub TakeAnswer : Type 0
TakeAnswer = Result Taken TakeRefused

-- by how much a number may be above the version
abbrev pub most_ahead : ℕ
most_ahead = 1024

-- an edit of this number waits
abbrev pub waits : ℕ → List Held → Bool
waits number waiting = list_any (λ (held : Held). held.number == number) waiting

-- the edit of this number is applied or waits
abbrev pub is_repeated : Following → ℕ → Bool
is_repeated follower number = nat_le number (version_of follower) || waits number follower.waiting

-- each rule that a change names may stand in its table
abbrev pub rules_may_stand : Shapes → Change → Bool
rules_may_stand shapes (Insert table rule) = may_stand shapes table rule
rules_may_stand shapes (Remove table rule) = may_stand shapes table rule
rules_may_stand shapes (Replace table old new) = may_stand shapes table old && may_stand shapes table new

-- the edit may be one of this number: its rules may stand in their tables, and a version may have the number
abbrev pub may_come : Shapes → ℕ → List Change → Bool
may_come shapes number edit = nat_le number most_versions && list_all (rules_may_stand shapes) edit

-- the edits that wait and have this number and those that follow without a gap
abbrev pub run_from : ℕ → List Held → List (List Change)
run_from number [] = []
run_from number (held ∷ others) = if held.number == number then held.edit ∷ run_from (number + 1) others else []

-- the longest front of edits that are admitted one after the other
abbrev pub admitted : Shapes → Policy → List (List Change) → List (List Change)
admitted shapes policy [] = []
admitted shapes policy (edit ∷ edits) = if admits shapes policy edit then edit ∷ admitted shapes (edited edit policy) edits else []

-- the edits that wait behind the next one without a gap
abbrev pub behind_next : Following → List (List Change)
behind_next follower = run_from (version_of follower + 2) follower.waiting

-- what is appended where this edit is the next one: the longest front, of it and those behind it, that is admitted
abbrev pub appended : Following → List Change → List (List Change)
appended follower edit = admitted follower.state.shapes (tables follower.state) (edit ∷ behind_next follower)

-- the answer where the text is an edit
abbrev pub edit_answer : Following → ℕ → List Change → TakeAnswer
edit_answer follower number edit =
    if not (may_come follower.state.shapes number edit) then Err Misfit
    else if not (number == version_of follower + 1) then Ok Waiting
    else if admits follower.state.shapes (tables follower.state) edit then Ok (Applied (version_of follower + length (appended follower edit)))
    else Err Misfit

abbrev pub text_answer : Following → ℕ → TextReading → TakeAnswer
text_answer follower number (Ok edit) = edit_answer follower number edit
text_answer follower number (Err line) = Err (Malformed line)

-- the answer to a packet of this number, whose text is read so
abbrev pub take_answer : Following → ℕ → TextReading → TakeAnswer
take_answer follower number reading =
    if is_repeated follower number then Ok Repeated
    else if nat_lt (version_of follower + most_ahead) number then Err (TooFar (version_of follower))
    else text_answer follower number reading

-- the edits that wait, with one more in its place
abbrev pub put : Held → List Held → List Held
put held [] = held ∷ []
put held (other ∷ others) = if nat_lt held.number other.number then held ∷ other ∷ others else other ∷ put held others

-- the edits that still wait where this edit is the next one: those that are appended go, and so does the one that follows
-- without a gap and is not admitted
abbrev pub left_behind : Following → List Change → List Held
left_behind follower edit = drop (min (length (appended follower edit)) (length (behind_next follower))) follower.waiting

-- the policy with edits behind the others, which are made in its tables
abbrev pub with_edits : List (List Change) → State → State
with_edits edits state = record state {
  log = record state.log { tail = state.log.tail ++ edits };
  parts = record state.parts { held = record state.parts.held { policy = replay edits state.parts.held.policy } };
}

-- the follower after an answer to the packet with this edit: one that waits is kept, one that is applied is appended, with those
-- behind it
abbrev pub after_answer : TakeAnswer → Held → Following → Following
after_answer (Ok Repeated) held follower = follower
after_answer (Ok Waiting) held follower = record follower { waiting = put held follower.waiting }
after_answer (Ok (Applied version)) held follower = record { state = with_edits (appended follower held.edit) follower.state; waiting = left_behind follower held.edit }
after_answer (Err refused) held follower = follower

-- the edit that is read, or none
abbrev pub edit_read : TextReading → List Change
edit_read (Ok edit) = edit
edit_read (Err line) = []

-- the result is the answer; want of memory may come at any time
abbrev pub IsAnswer : TakeAnswer → TakeAnswer → Type 0
IsAnswer answer (Ok taken) = answer ≡ Ok taken
IsAnswer answer (Err NoMemory) = ⊤
IsAnswer answer (Err (TooFar version)) = answer ≡ Err (TooFar version)
IsAnswer answer (Err (Malformed line)) = answer ≡ Err (Malformed line)
IsAnswer answer (Err Misfit) = answer ≡ Err Misfit

-- a packet is taken: its answer is given, and the follower is then what this answer leaves of it
pub record Takes (before : Following) (packet : Packet) (result : TakeAnswer) (now : Following) : Type 0 where
  pub answer : (reading : TextReading) → Reads packet.text reading → IsAnswer (take_answer before packet.number reading) result
  pub after : (reading : TextReading) → Reads packet.text reading → IsSame (after_answer result (record { number = packet.number; edit = edit_read reading }) before) now

-- packets are taken one after the other, with these answers
abbrev pub TakesAll : Following → List Packet → List TakeAnswer → Following → Type 0
TakesAll before [] [] now = IsSame before now
TakesAll before (packet ∷ packets) (result ∷ results) now = (next : Following) × Takes before packet result next × TakesAll next packets results now
TakesAll before [] (result ∷ results) now = ⊥
TakesAll before (packet ∷ packets) [] now = ⊥
