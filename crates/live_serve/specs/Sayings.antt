-- What the sections of a stream say. Each section is a script of its own, and in a follower's stream one that has the word `edit` is packets.
use Rattle.std.specs.Prelude.{◌≡◌, ◌⊎◌, ℕ, Bool, MatchBool, false, List, [], ◌∷◌, ◌++◌, map, Some, None, if◌then◌else◌}
use Rattle.item_stream.specs.Lines.{begins_packet}
use Rattle.item_stream.specs.Sections.{Section}
use Rattle.log_ship.specs.PacketText.{ArePackets, IsPacketFault}
use Rattle.log_ship.specs.declared.packet.Packet.{Packet}
use Rattle.log_ship.specs.declared.packet_fault.PacketFault.{PacketFault}
use Rattle.script_read.specs.Said.{Said}
use Rattle.script_read.specs.Script.{IsScript, IsScriptFault}
use Rattle.script_read.specs.declared.fault.ScriptFault.{ScriptFault}

-- what has one answer: an item, or why a section is no script; a packet, or that a section is none
pub data Saying : Type 0 where
  item : Said → Saying
  fault : ScriptFault → Saying
  packet : Packet → Saying
  no_packet : Saying
  too_long : Saying

abbrev pub said : List Said → List Saying
said items = map item items

abbrev pub sent : List Packet → List Saying
sent packets = map packet packets

-- the lines are a script of items that are these
pub record AreItems (json : Bool) (text : List ℕ) (sayings : List Saying) : Type 0 where
  pub items : List Said
  pub script : IsScript json text items
  pub are : sayings ≡ said items

-- they are none, by their first fault, which is all that they say
pub record AreAtFault (json : Bool) (text : List ℕ) (sayings : List Saying) : Type 0 where
  pub first : ScriptFault
  pub bad : IsScriptFault json text first
  pub are : sayings ≡ fault first ∷ []

-- the lines are packets that are these
pub record AreSent (text : List ℕ) (sayings : List Saying) : Type 0 where
  pub packets : List Packet
  pub are_packets : ArePackets text packets
  pub are : sayings ≡ sent packets

-- they are none
pub record AreNotSent (text : List ℕ) (sayings : List Saying) : Type 0 where
  pub first : PacketFault
  pub bad : IsPacketFault text first
  pub are : sayings ≡ no_packet ∷ []

-- lines that are read as packets
abbrev pub is_sent : Bool → List ℕ → Bool
is_sent follow text = if follow then begins_packet text else false

-- a section says this
abbrev pub Says : (json follow : Bool) → Section → List Saying → Type 0
Says json follow None sayings = sayings ≡ too_long ∷ []
Says json follow (Some text) sayings = MatchBool (is_sent follow text) (AreSent text sayings ⊎ AreNotSent text sayings) (AreItems json text sayings ⊎ AreAtFault json text sayings)

-- sections say these, one after the other
abbrev pub AllSay : (json follow : Bool) → List Section → List Saying → Type 0
AllSay json follow [] sayings = sayings ≡ []
AllSay json follow (section ∷ sections) sayings = (first : List Saying) × (others : List Saying) × (sayings ≡ first ++ others) × Says json follow section first × AllSay json follow sections others
