-- Where a reader of packets stands.
use Rattle.std.specs.Prelude.{◌≡◌, ℕ, ◌<◌, ◌≤◌, false, List, [], ◌∷◌, ◌++◌, decimal, flat_map, map, string_bytes}
use Rattle.std.specs.List.{AllByRecursion}
use Rattle.log_ship.specs.PacketText.{IsBadLine, IsPart, Part, is_dot, part_lines, text_lines}
use Rattle.log_ship.specs.Packets.{head_line}
use Rattle.log_ship.specs.declared.packet.Packet.{Packet}
use Rattle.log_ship.specs.declared.packet_fault.PacketFault.{PacketFault}
use Rattle.log_ship.specs.declared.packet_fault.PacketFault.TheVariants.{NotUtf8, Line, NoMemory}
use Rattle.log_ship.specs.declared.packet_read.Place.{Place}
use Rattle.log_ship.specs.declared.packet_read.Place.TheVariants.{Between, Within}
use Rattle.text_parts.specs.Lines.{has_byte, with_ends}
use Rattle.version_log.specs.Log.{most_versions}

-- the line is the first of a packet with this number
pub record IsHead (line : List ℕ) (number : ℕ) : Type 0 where
  pub some : 0 < number
  pub few : number ≤ most_versions
  pub spelling : line ≡ head_line number

-- the digits write a number of a packet
pub record IsNumber (digits : List ℕ) (number : ℕ) : Type 0 where
  pub some : 0 < number
  pub few : number ≤ most_versions
  pub spelling : digits ≡ decimal number

-- the packet of these lines
abbrev pub packet_of : Part → Packet
packet_of part = record { number = part.number; text = with_ends (text_lines part) }

-- these lines of an open packet were read, and this is their text
pub record HasOpened (number : ℕ) (text : List ℕ) (lines : List (List ℕ)) : Type 0 where
  pub some : 0 < number
  pub few : number ≤ most_versions
  pub body : List (List ℕ)
  pub open_lines : AllByRecursion (λ (line : List ℕ). is_dot line ≡ false) body
  pub told : text ≡ with_ends body
  pub all : lines ≡ head_line number ∷ body

-- the lines of the packet that is open
abbrev pub IsOpen : Place → List (List ℕ) → Type 0
IsOpen Between lines = lines ≡ []
IsOpen (Within number text) lines = HasOpened number (string_bytes text) lines

-- these lines were read: whole packets, and at this place the lines of one that is open
pub record HasRead (front : List (List ℕ)) (packets : List Packet) (place : Place) : Type 0 where
  pub parts : List Part
  pub last : List (List ℕ)
  pub each : AllByRecursion IsPart parts
  pub are : packets ≡ map packet_of parts
  pub at_place : IsOpen place last
  pub all : front ≡ flat_map part_lines parts ++ last
  pub whole : AllByRecursion (λ (line : List ℕ). has_byte 10 line ≡ false) front

-- a text of UTF-8 has this fault
abbrev pub IsLineFault : List ℕ → PacketFault → Type 0
IsLineFault text NotUtf8 = ⊥
IsLineFault text (Line number) = IsBadLine text number
IsLineFault text NoMemory = ⊥
