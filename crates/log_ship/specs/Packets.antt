-- Packets: the edit of a number, as text, and the packets of the edits that a log holds.
use Rattle.std.specs.Prelude.{◌≡◌, ℕ, ◌+◌, List, [], ◌∷◌, ◌++◌, codes, decimal, Some, ⊤}
use Rattle.log_ship.specs.declared.packet.Packet.{Packet}
use Rattle.log_ship.specs.declared.ship_refused.ShipRefused.{ShipRefused}
use Rattle.log_ship.specs.declared.ship_refused.ShipRefused.TheVariants as ship
use Rattle.policy_query.specs.Edits.{IsEdit, edit_refusal}
use Rattle.policy_query.specs.declared.refused.QueryRefused.TheVariants as query
use Rattle.policy_table.specs.declared.change.Change.{Change}
use Rattle.version_log.specs.EditText.{IsEditText, printed_edit}
use Rattle.version_log.specs.Log.{Logged}

-- the first line of a packet, `edit NUMBER`
abbrev pub head_line : ℕ → List ℕ
head_line number = codes "edit " ++ decimal number

-- a packet as text: its first line with an LF, and its own text
abbrev pub printed : Packet → List ℕ
printed packet = head_line packet.number ++ 10 ∷ packet.text

-- edits, the first of this number, as packets one after the other
abbrev pub shipped : ℕ → List (List Change) → List ℕ
shipped number [] = []
shipped number (edit ∷ edits) = printed (record { number = number; text = printed_edit edit }) ++ shipped (number + 1) edits

-- the packets of a log: the edits numbered from its start plus 1 to its version
abbrev pub log_packets : Logged → List ℕ
log_packets log = shipped (log.start + 1) log.tail

-- the packet is that of a number in a log
pub record IsPacketOf (log : Logged) (number : ℕ) (packet : Packet) : Type 0 where
  pub numbered : packet.number ≡ number
  pub edit : List Change
  pub is : IsEdit log number edit
  pub text : IsEditText packet.text edit

-- why there is no packet of this number, as the log tells it of the edit; want of memory may come at any time
abbrev pub IsRefusalOf : Logged → ℕ → ShipRefused → Type 0
IsRefusalOf log number (ship.NoEdit version) = edit_refusal log number ≡ Some (query.NoEdit version)
IsRefusalOf log number (ship.Dropped start) = edit_refusal log number ≡ Some (query.Dropped start)
IsRefusalOf log number ship.NoMemory = ⊤
