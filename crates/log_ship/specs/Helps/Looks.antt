-- What is found where a packet is looked at before anything changes.
use Rattle.std.specs.Prelude.{◌≡◌, ◌+◌, ◌≤◌, true, false, List, Option, Some, None, Result, Ok, Err}
use Rattle.log_ship.specs.Followers.{Following, version_of}
use Rattle.log_ship.specs.Taken.{IsAnswer, Reads, TextReading, is_repeated, may_come, most_ahead, take_answer}
use Rattle.log_ship.specs.declared.packet.Packet.{Packet}
use Rattle.log_ship.specs.declared.taken.TakeRefused.{TakeRefused}
use Rattle.policy_table.specs.declared.change.Change.{Change}
use Rattle.version_log.specs.EditText.{IsEditText}

-- the packet's edit is new, near, and may be one of its number
pub record IsNew (follower : Following) (packet : Packet) (edit : List Change) : Type 0 where
  pub text : IsEditText packet.text edit
  pub fresh : is_repeated follower packet.number ≡ false
  pub near : packet.number ≤ version_of follower + most_ahead
  pub comes : may_come follower.state.shapes packet.number edit ≡ true

-- nothing, where it is repeated; its edit, where that is new; or the answer
abbrev pub IsLook : Following → Packet → Result (Option (List Change)) TakeRefused → Type 0
IsLook follower packet (Ok None) = is_repeated follower packet.number ≡ true
IsLook follower packet (Ok (Some edit)) = IsNew follower packet edit
IsLook follower packet (Err refused) = (reading : TextReading) → Reads packet.text reading → IsAnswer (take_answer follower packet.number reading) (Err refused)
