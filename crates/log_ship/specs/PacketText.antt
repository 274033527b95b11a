-- Texts of packets that are read: packets one after the other, each a line `edit NUMBER` and lines up to the first `.`, an LF
-- after every line.
use Rattle.std.specs.Prelude.{◌≡◌, ℕ, ◌<◌, ◌≤◌, Bool, false, List, [], ◌∷◌, ◌++◌, codes, flat_map, length, IsUtf8}
use Rattle.std.specs.List.{AllByRecursion}
use Rattle.std.specs.Str.{bytes_eq}
use Rattle.log_ship.specs.Packets.{head_line, printed}
use Rattle.log_ship.specs.declared.packet.Packet.{Packet}
use Rattle.log_ship.specs.declared.packet_fault.PacketFault.{PacketFault}
use Rattle.log_ship.specs.declared.packet_fault.PacketFault.TheVariants.{NotUtf8, Line, NoMemory}
use Rattle.text_parts.specs.Lines.{has_byte, lines_of, with_ends}
pub use Rattle.version_log.specs.EditText.{number_at}
use Rattle.version_log.specs.Log.{most_versions}

-- the line is `.`
abbrev pub is_dot : List ℕ → Bool
is_dot line = bytes_eq line (codes ".")

-- a packet's lines: its number, and those between its first line and its last, `.`
pub record Part : Type 0 where
  pub number : ℕ
  pub lines : List (List ℕ)

-- the lines behind the first
abbrev pub text_lines : Part → List (List ℕ)
text_lines part = part.lines ++ codes "." ∷ []

-- all its lines
abbrev pub part_lines : Part → List (List ℕ)
part_lines part = head_line part.number ∷ text_lines part

-- the number is one of a version, and no line between the first and the last is `.`
pub record IsPart (part : Part) : Type 0 where
  pub some : 0 < part.number
  pub few : part.number ≤ most_versions
  pub open_lines : AllByRecursion (λ (line : List ℕ). is_dot line ≡ false) part.lines

-- the packet has these lines
pub record IsPacket (packet : Packet) : Type 0 where
  pub lines : List (List ℕ)
  pub part : IsPart (record { number = packet.number; lines = lines })
  pub whole : AllByRecursion (λ (line : List ℕ). has_byte 10 line ≡ false) lines
  pub text : packet.text ≡ with_ends (text_lines (record { number = packet.number; lines = lines }))

-- the bytes are these packets as they are printed, one after the other
pub record ArePackets (bytes : List ℕ) (packets : List Packet) : Type 0 where
  pub utf8 : IsUtf8 bytes
  pub each : AllByRecursion IsPacket packets
  pub text : bytes ≡ flat_map printed packets

-- the lines stand at the front of those of packets
pub record AreFront (lines : List (List ℕ)) : Type 0 where
  pub parts : List Part
  pub rest : List (List ℕ)
  pub each : AllByRecursion IsPart parts
  pub all : flat_map part_lines parts ≡ lines ++ rest

-- the line of this number does not belong: the lines before it are a front, and with it they are none
pub record IsStray (bytes : List ℕ) (number : ℕ) : Type 0 where
  pub before : List (List ℕ)
  pub here : List ℕ
  pub behind : List (List ℕ)
  pub parts : lines_of bytes ≡ before ++ here ∷ behind
  pub front : AreFront before
  pub stray : ¬ (AreFront (before ++ here ∷ []))
  pub place : number ≡ number_at (length before)

-- the text ends too early: all its lines are a front, but a packet is open or the last LF is missing; this is the number of the
-- line after the last
pub record IsCut (bytes : List ℕ) (number : ℕ) : Type 0 where
  pub front : AreFront (lines_of bytes)
  pub no_packets : (packets : List Packet) → ¬ (ArePackets bytes packets)
  pub place : number ≡ number_at (length (lines_of bytes))

-- the first line of UTF-8 that is in the way
pub data IsBadLine (bytes : List ℕ) (number : ℕ) : Type 0 where
  stray : IsStray bytes number → IsBadLine bytes number
  cut : IsCut bytes number → IsBadLine bytes number

-- the bytes have this fault; none are at fault by want of memory
abbrev pub IsPacketFault : List ℕ → PacketFault → Type 0
IsPacketFault bytes NotUtf8 = ¬ (IsUtf8 bytes)
IsPacketFault bytes (Line number) = IsUtf8 bytes × IsBadLine bytes number
IsPacketFault bytes NoMemory = ⊥
