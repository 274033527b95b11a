-- All bytes are packets or have a fault.
use Rattle.std.proofs.Common.{◌≡◌, ℕ, ◌<◌, ◌≤◌, ◌⊎◌, inl, inr, Bool, true, false, cond, eqb, List, [], ◌∷◌, ◌++◌, append_assoc, append-nil, codes, decimal, length, map, IsUtf8, refl, sym, ap, subst, ◌∙◌, arith, true≢false, eqb-true}
use Rattle.std.specs.Str.Parse.{digits_value}
use Rattle.std.specs.List.{AllByRecursion, onto_first}
use Rattle.std.specs.Prelude.{flat_map, nat_lt}
use Rattle.std.specs.Str.{bytes_eq, is_utf8}
use Rattle.std.proofs.lemmas.Bool.{eqb-false, ltb-false, ltb-true}
use Rattle.std.proofs.lemmas.Fmt.{digits_value-decimal}
use Rattle.std.proofs.lemmas.List.Concat.{flat_map-append}
use Rattle.std.proofs.lemmas.Slice.Eq.{bytes_eq-Decides}
use Rattle.std.proofs.lemmas.Str.{IsUtf8-from_is_utf8, is_utf8-from_IsUtf8}
use Rattle.std.proofs.lemmas.Str.Parse.{numerals_by_value, tells_all_ascii_digits}
use Rattle.log_ship.proofs.PartLemmas.{AreOpen, AreWhole, all_both, all_front, goes, has_parts, no_dot, small_number}
use Rattle.log_ship.proofs.ReadLemmas.{read_text, stray_head}
use Rattle.log_ship.specs.Helps.Reads.{HasRead, IsHead, IsNumber, packet_of}
use Rattle.log_ship.specs.PacketText.{AreFront, ArePackets, IsBadLine, IsPacketFault, IsPart, Part, is_dot, number_at, part_lines, text_lines}
use Rattle.log_ship.specs.PacketText.IsBadLine.{stray, cut}
use Rattle.log_ship.specs.Packets.{head_line}
use Rattle.log_ship.specs.declared.packet.Packet.{Packet}
use Rattle.log_ship.specs.declared.packet_fault.PacketFault.{PacketFault}
use Rattle.log_ship.specs.declared.packet_fault.PacketFault.TheVariants.{NotUtf8, Line}
use Rattle.log_ship.specs.declared.packet_read.Place.TheVariants.{Between}
use Rattle.text_parts.specs.Lines.{has_byte, lines_of, with_ends}
use Rattle.version_log.specs.Log.{most_versions}

-- ---- first lines

-- a text begins with another or not
abbrev Begins : List ℕ → List ℕ → Type 0
Begins front text = ((rest : List ℕ) × (text ≡ front ++ rest)) ⊎ ((rest : List ℕ) → ¬ (text ≡ front ++ rest))

begins_byte : (byte other : ℕ) (front text : List ℕ) (same : Bool) → eqb other byte ≡ same → Begins front text → Begins (byte ∷ front) (other ∷ text)
begins_byte byte other front text true e (inl cut_off) = inl (cut_off.0, ap (λ (b : ℕ). b ∷ text) (eqb-true other byte e) ∙ ap (λ (l : List ℕ). byte ∷ l) cut_off.1)
begins_byte byte other front text true e (inr none) = inr (λ rest f. none rest (let tails : text ≡ front ++ rest = cc in tails))
begins_byte byte other front text false e found = inr (λ rest f. eqb-false other byte e (let heads : other ≡ byte = cc in heads))

begins_decides : (front text : List ℕ) → Begins front text
begins_decides [] text = inl (text, refl)
begins_decides (byte ∷ front) [] = inr (λ rest e. absurd cc)
begins_decides (byte ∷ front) (other ∷ text) = begins_byte byte other front text (eqb other byte) refl (begins_decides front text)

-- the digits write a number of a packet or not
abbrev Numbers : List ℕ → Type 0
Numbers digits = ((number : ℕ) × IsNumber digits number) ⊎ ((number : ℕ) → ¬ (IsNumber digits number))

-- the number that digits write is their value
value_is : (digits : List ℕ) (value number : ℕ) → value ≡ digits_value 10 digits → IsNumber digits number → value ≡ number
value_is digits value number is numbers = is ∙ ap (digits_value 10) numbers.spelling ∙ digits_value-decimal (numerals_by_value _ tells_all_ascii_digits) number (small_number number numbers.few)

numbers_by : (digits : List ℕ) (value : ℕ) → value ≡ digits_value 10 digits → (some many same : Bool) → nat_lt 0 value ≡ some → nat_lt most_versions value ≡ many → bytes_eq digits (decimal value) ≡ same → Numbers digits
numbers_by digits value is false many same e f g = inr (λ number numbers. absurd (omega (arith, ltb-false 0 value e, value_is digits value number is numbers, numbers.some)))
numbers_by digits value is true true same e f g = inr (λ number numbers. absurd (omega (arith, ltb-true most_versions value f, value_is digits value number is numbers, numbers.few)))
numbers_by digits value is true false false e f g = inr (λ number numbers.
    let spelled : digits ≡ decimal value = numbers.spelling ∙ ap decimal (sym (value_is digits value number is numbers)) in
    true≢false (sym ((bytes_eq-Decides digits (decimal value)).1 spelled) ∙ g))
numbers_by digits value is true false true e f g = inl (value, record { some = ltb-true 0 value e; few = ltb-false most_versions value f; spelling = (bytes_eq-Decides digits (decimal value)).0 g })

numbers_decides : (digits : List ℕ) → Numbers digits
numbers_decides digits = by (digits_value 10 digits) refl
  where
    by : (value : ℕ) → value ≡ digits_value 10 digits → Numbers digits
    by value is = numbers_by digits value is (nat_lt 0 value) (nat_lt most_versions value) (bytes_eq digits (decimal value)) refl refl refl

-- a line is the first of a packet or not
abbrev Heads : List ℕ → Type 0
Heads line = ((number : ℕ) × IsHead line number) ⊎ ((number : ℕ) → ¬ (IsHead line number))

heads_by : (line digits : List ℕ) → line ≡ codes "edit " ++ digits → Numbers digits → Heads line
heads_by line digits e (inl found) = inl (found.0, record { some = found.1.some; few = found.1.few; spelling = e ∙ ap (λ (d : List ℕ). codes "edit " ++ d) found.1.spelling })
heads_by line digits e (inr none) = inr (λ number head.
    let both : codes "edit " ++ digits ≡ codes "edit " ++ decimal number = sym e ∙ head.spelling in
    none number (record { some = head.some; few = head.few; spelling = let same : digits ≡ decimal number = cc in same }))

heads_decides : (line : List ℕ) → Heads line
heads_decides line = by (begins_decides (codes "edit ") line)
  where
    by : Begins (codes "edit ") line → Heads line
    by (inl found) = heads_by line found.0 found.1 (numbers_decides found.0)
    by (inr none) = inr (λ number head. none (decimal number) head.spelling)

-- ---- where lines stand

-- they are those of whole packets
record AreParts (front : List (List ℕ)) : Type 0 where
  parts : List Part
  each : AllByRecursion IsPart parts
  all : front ≡ flat_map part_lines parts

-- they are those of whole packets and of one that is open
record HaveOpen (front : List (List ℕ)) : Type 0 where
  parts : List Part
  each : AllByRecursion IsPart parts
  number : ℕ
  some : 0 < number
  few : number ≤ most_versions
  body : List (List ℕ)
  open_lines : AreOpen body
  all : front ≡ flat_map part_lines parts ++ head_line number ∷ body

abbrev Stands : List (List ℕ) → Type 0
Stands front = AreParts front ⊎ HaveOpen front

-- the packet that is open, as if `.` came next
abbrev last_part : (front : List (List ℕ)) → HaveOpen front → Part
last_part front o = record { number = o.number; lines = o.body }

last_is : (front : List (List ℕ)) (o : HaveOpen front) → IsPart (last_part front o)
last_is front o = record { some = o.some; few = o.few; open_lines = o.open_lines }

begun : (front : List (List ℕ)) (line : List ℕ) (number : ℕ) → AreParts front → IsHead line number → HaveOpen (front ++ line ∷ [])
begun front line number p head = record {
  parts = p.parts;
  each = p.each;
  number = number;
  some = head.some;
  few = head.few;
  body = [];
  open_lines = tt;
  all = ap (λ (l : List (List ℕ)). l ++ line ∷ []) p.all ∙ ap (λ (l : List ℕ). flat_map part_lines p.parts ++ l ∷ []) head.spelling;
}

longer : (front : List (List ℕ)) (line : List ℕ) → HaveOpen front → is_dot line ≡ false → HaveOpen (front ++ line ∷ [])
longer front line o other = record {
  parts = o.parts;
  each = o.each;
  number = o.number;
  some = o.some;
  few = o.few;
  body = o.body ++ line ∷ [];
  open_lines = all_both (λ (l : List ℕ). is_dot l ≡ false) o.body (line ∷ []) o.open_lines (other, tt);
  all = ap (λ (l : List (List ℕ)). l ++ line ∷ []) o.all ∙ append_assoc (flat_map part_lines o.parts) (head_line o.number ∷ o.body) (line ∷ []);
}

ended : (front : List (List ℕ)) (line : List ℕ) → HaveOpen front → line ≡ codes "." → AreParts (front ++ line ∷ [])
ended front line o dot =
    let part : Part = last_part front o in
    record {
      parts = o.parts ++ part ∷ [];
      each = all_both IsPart o.parts (part ∷ []) o.each (last_is front o, tt);
      all =
          ap (λ (l : List (List ℕ)). l ++ line ∷ []) o.all
          ∙ ap (λ (l : List ℕ). (flat_map part_lines o.parts ++ head_line o.number ∷ o.body) ++ l ∷ []) dot
          ∙ append_assoc (flat_map part_lines o.parts) (head_line o.number ∷ o.body) (codes "." ∷ [])
          ∙ ap (λ (l : List (List ℕ)). flat_map part_lines o.parts ++ l) (sym (append-nil (part_lines part)))
          ∙ sym (flat_map-append part_lines o.parts (part ∷ []));
    }

front_is : (front : List (List ℕ)) → Stands front → AreFront front
front_is front (inl p) = record { parts = p.parts; rest = []; each = p.each; all = sym p.all ∙ sym (append-nil front) }
front_is front (inr o) =
    let part : Part = last_part front o in
    record {
      parts = o.parts ++ part ∷ [];
      rest = codes "." ∷ [];
      each = all_both IsPart o.parts (part ∷ []) o.each (last_is front o, tt);
      all =
          flat_map-append part_lines o.parts (part ∷ [])
          ∙ ap (λ (l : List (List ℕ)). flat_map part_lines o.parts ++ l) (append-nil (part_lines part))
          ∙ sym (append_assoc (flat_map part_lines o.parts) (head_line o.number ∷ o.body) (codes "." ∷ []))
          ∙ ap (λ (l : List (List ℕ)). l ++ codes "." ∷ []) (sym o.all);
    }

-- whole packets are read
read_of : (front : List (List ℕ)) (p : AreParts front) → AreWhole front → HasRead front (map packet_of p.parts) Between
read_of front p whole = record { parts = p.parts; last = []; each = p.each; are = refl; at_place = refl; all = p.all ∙ sym (append-nil (flat_map part_lines p.parts)); whole = whole }

-- a text whose lines end in an open packet is none
open_no_packets : (text : List ℕ) (front : List (List ℕ)) (packets : List Packet) → HaveOpen front → lines_of text ≡ front → ¬ (ArePackets text packets)
open_no_packets text front packets o lines is =
    let p = has_parts text packets is in
    let g = goes o.parts p.parts (head_line o.number ∷ o.body) o.each p.each (sym p.lines ∙ lines ∙ o.all) in
    by g.tail g.lines
  where
    by : (tail : List Part) → flat_map part_lines tail ≡ head_line o.number ∷ o.body → ⊥
    by [] e = absurd cc
    by (part ∷ tail) e = no_dot o.body part.lines (flat_map part_lines tail) o.open_lines (sym (let behind : text_lines part ++ flat_map part_lines tail ≡ o.body = cc in behind))

-- one that says packets is its lines with their LF
ended_text : (text : List ℕ) (front : List (List ℕ)) (packets : List Packet) → lines_of text ≡ front → ArePackets text packets → text ≡ with_ends front
ended_text text front packets lines is =
    let p = has_parts text packets is in
    p.spelled ∙ ap with_ends (sym p.lines ∙ lines)

-- ---- no line holds LF

onto_whole : (byte : ℕ) (lines : List (List ℕ)) → eqb byte 10 ≡ false → AreWhole lines → AreWhole (onto_first byte lines)
onto_whole byte [] e whole = (rw e refl, tt)
onto_whole byte (line ∷ lines) e whole = (rw e whole.0, whole.1)

lines_whole : (text : List ℕ) → AreWhole (lines_of text)
unfolding lines_of
lines_whole [] = tt
lines_whole (byte ∷ bytes) = by (eqb byte 10) refl (lines_whole bytes)
  where
    by : (test : Bool) → eqb byte 10 ≡ test → AreWhole (lines_of bytes) → AreWhole (cond test ([] ∷ lines_of bytes) (onto_first byte (lines_of bytes)))
    by true e rest = (refl, rest)
    by false e rest = onto_whole byte (lines_of bytes) e rest

-- ---- what bytes are

abbrev pub IsToldBy : List ℕ → Type 0
IsToldBy bytes = ((packets : List Packet) × ArePackets bytes packets) ⊎ ((fault : PacketFault) × IsPacketFault bytes fault)

module _ (text : List ℕ) (utf8 : IsUtf8 text) where
  bad : (number : ℕ) → IsBadLine text number → IsToldBy text
  bad number is = inr (Line number, (utf8, is))

  -- the lines behind those that were read
  abbrev Goes : List (List ℕ) → Type 0
  Goes rest = (front : List (List ℕ)) → Stands front → lines_of text ≡ front ++ rest → IsToldBy text

  front_whole : (front rest : List (List ℕ)) → lines_of text ≡ front ++ rest → AreWhole front
  front_whole front rest lines = all_front (λ (line : List ℕ). has_byte 10 line ≡ false) front rest (subst AreWhole lines (lines_whole text))

  strayed : (front rest : List (List ℕ)) (line : List ℕ) (p : AreParts front) → lines_of text ≡ front ++ line ∷ rest → ((number : ℕ) → ¬ (IsHead line number)) → IsToldBy text
  strayed front rest line p lines none =
      bad (number_at (length front)) (stray (record {
        before = front;
        here = line;
        behind = rest;
        parts = lines;
        front = front_is front (inl p);
        stray = stray_head front (map packet_of p.parts) line (read_of front p (front_whole front (line ∷ rest) lines)) none;
        place = refl;
      }))

  cut_off : (front : List (List ℕ)) → Stands front → lines_of text ≡ front → ((packets : List Packet) → ¬ (ArePackets text packets)) → IsToldBy text
  cut_off front stands lines none = bad (number_at (length (lines_of text))) (cut (record { front = subst AreFront (sym lines) (front_is front stands); no_packets = none; place = refl }))

  behind_head : (rest : List (List ℕ)) (line : List ℕ) → Goes rest → (front : List (List ℕ)) (p : AreParts front) → lines_of text ≡ front ++ line ∷ rest → Heads line → IsToldBy text
  behind_head rest line go front p lines (inl found) = go (front ++ line ∷ []) (inr (begun front line found.0 p found.1)) (lines ∙ sym (append_assoc front (line ∷ []) rest))
  behind_head rest line go front p lines (inr none) = strayed front rest line p lines none

  behind_line : (rest : List (List ℕ)) (line : List ℕ) → Goes rest → (front : List (List ℕ)) → HaveOpen front → lines_of text ≡ front ++ line ∷ rest → (dot : Bool) → is_dot line ≡ dot → IsToldBy text
  behind_line rest line go front o lines true e = go (front ++ line ∷ []) (inl (ended front line o ((bytes_eq-Decides line (codes ".")).0 e))) (lines ∙ sym (append_assoc front (line ∷ []) rest))
  behind_line rest line go front o lines false e = go (front ++ line ∷ []) (inr (longer front line o e)) (lines ∙ sym (append_assoc front (line ∷ []) rest))

  next_line : (rest : List (List ℕ)) (line : List ℕ) → Goes rest → Goes (line ∷ rest)
  next_line rest line go front (inl p) lines = behind_head rest line go front p lines (heads_decides line)
  next_line rest line go front (inr o) lines = behind_line rest line go front o lines (is_dot line) refl

  -- whole packets at the end: the last LF is there or not
  at_end_of_parts : (front : List (List ℕ)) (p : AreParts front) → lines_of text ≡ front → (same : Bool) → bytes_eq text (with_ends front) ≡ same → IsToldBy text
  at_end_of_parts front p lines true e =
      let is : text ≡ with_ends front = (bytes_eq-Decides text (with_ends front)).0 e in
      let whole : AreWhole front = subst AreWhole lines (lines_whole text) in
      let same : with_ends front ++ [] ≡ text = append-nil (with_ends front) ∙ sym is in
      inl (map packet_of p.parts, subst (λ (t : List ℕ). ArePackets t (map packet_of p.parts)) same (read_text front (map packet_of p.parts) [] (read_of front p whole) refl (subst IsUtf8 (sym same) utf8)))
  at_end_of_parts front p lines false e =
      cut_off front (inl p) lines (λ packets is. true≢false (sym ((bytes_eq-Decides text (with_ends front)).1 (ended_text text front packets lines is)) ∙ e))

  at_end : (front : List (List ℕ)) → Stands front → lines_of text ≡ front → IsToldBy text
  at_end front (inl p) lines = at_end_of_parts front p lines (bytes_eq text (with_ends front)) refl
  at_end front (inr o) lines = cut_off front (inr o) lines (λ packets is. open_no_packets text front packets o lines is)

  go_on : (rest : List (List ℕ)) → Goes rest
  go_on [] front stands lines = at_end front stands (lines ∙ append-nil front)
  go_on (line ∷ rest) front stands lines = next_line rest line (go_on rest) front stands lines

  text_decides : IsToldBy text
  text_decides = go_on (lines_of text) [] (inl (record { parts = []; each = tt; all = refl })) refl

pub input_decides : (bytes : List ℕ) → IsToldBy bytes
input_decides bytes = by (is_utf8 bytes) refl
  where
    by : (test : Bool) → is_utf8 bytes ≡ test → IsToldBy bytes
    by true e = text_decides bytes (IsUtf8-from_is_utf8 bytes e)
    by false e = inr (NotUtf8, λ utf8. true≢false (sym (is_utf8-from_IsUtf8 bytes utf8) ∙ e))
