-- A reader of packets, line by line.
use Rattle.std.proofs.Common.{◌≡◌, ◌≢◌, ℕ, ◌+◌, ◌<◌, ◌≤◌, false, List, [], ◌∷◌, ◌++◌, append_assoc, append-nil, codes, length, length-append, map, min, Result, Ok, Err, IfOk, IfErr, IsUtf8, MatchResult, String, Global, string_bytes, refl, sym, ap, subst, ◌∙◌, arith}
use Rattle.std.specs.Prelude.{flat_map}
use Rattle.std.specs.List.{AllByRecursion}
use Rattle.std.proofs.lemmas.List.Concat.{flat_map-append}
use Rattle.log_ship.proofs.PartLemmas.{AreOpen, AreWhole, all_both, ends_both, goes, has_parts, lines_of_ended, no_dot, packets_once, parts_text}
use Rattle.log_ship.specs.Helps.Reads.{HasRead, IsHead, IsLineFault, packet_of}
use Rattle.log_ship.specs.PacketText.{AreFront, ArePackets, IsBadLine, IsPacket, IsPacketFault, IsPart, IsStray, Part, is_dot, number_at, part_lines, text_lines}
use Rattle.log_ship.specs.PacketText.IsBadLine.{stray, cut}
use Rattle.log_ship.specs.Packets.{head_line, printed}
use Rattle.log_ship.specs.declared.packet.Packet.{Packet}
use Rattle.log_ship.specs.declared.packet_fault.PacketFault.{PacketFault}
use Rattle.log_ship.specs.declared.packet_fault.PacketFault.TheVariants.{NotUtf8, Line, NoMemory}
use Rattle.log_ship.specs.declared.packet_read.Place.{Place}
use Rattle.log_ship.specs.declared.packet_read.Place.TheVariants.{Between, Within}
use Rattle.text_parts.proofs.CallerLemmas.{lines_of-cut, lines_of-last, lines_of-with_ends}
use Rattle.text_parts.specs.Lines.{has_byte, lines_of, with_ends}

-- ---- the lines that were read, with one more

one_whole : (front : List (List ℕ)) (line : List ℕ) → AreWhole front → has_byte 10 line ≡ false → AreWhole (front ++ line ∷ [])
one_whole front line whole one = all_both (λ (l : List ℕ). has_byte 10 l ≡ false) front (line ∷ []) whole (one, tt)

-- nothing is read yet
pub read_none : HasRead [] [] Between
read_none = record { parts = []; last = []; each = tt; are = refl; at_place = refl; all = refl; whole = tt }

-- the first line of a packet
pub opened : (front : List (List ℕ)) (packets : List Packet) (line : List ℕ) (number : ℕ) (text : String Global) → HasRead front packets Between → IsHead line number → has_byte 10 line ≡ false → string_bytes text ≡ []
    → HasRead (front ++ line ∷ []) packets (Within number text)
opened front packets line number text read head whole none = record {
  parts = read.parts;
  last = line ∷ [];
  each = read.each;
  are = read.are;
  at_place = record { some = head.some; few = head.few; body = []; open_lines = tt; told = none; all = ap (λ (l : List ℕ). l ∷ []) head.spelling };
  all = ap (λ (l : List (List ℕ)). l ++ line ∷ []) (read.all ∙ ap (λ (l : List (List ℕ)). flat_map part_lines read.parts ++ l) read.at_place ∙ append-nil (flat_map part_lines read.parts));
  whole = one_whole front line read.whole whole;
}

-- a line of its text
pub more_open : (front : List (List ℕ)) (packets : List Packet) (line : List ℕ) (text longer : String Global) (number : ℕ) → HasRead front packets (Within number text) → is_dot line ≡ false → string_bytes longer ≡ string_bytes text ++ (line ++ 10 ∷ []) → has_byte 10 line ≡ false
    → HasRead (front ++ line ∷ []) packets (Within number longer)
more_open front packets line text longer number read other e whole =
    let o = read.at_place in
    record {
      parts = read.parts;
      last = read.last ++ line ∷ [];
      each = read.each;
      are = read.are;
      at_place = record {
        some = o.some;
        few = o.few;
        body = o.body ++ line ∷ [];
        open_lines = all_both (λ (l : List ℕ). is_dot l ≡ false) o.body (line ∷ []) o.open_lines (other, tt);
        told = e ∙ ap (λ (t : List ℕ). t ++ (line ++ 10 ∷ [])) o.told ∙ ap (λ (t : List ℕ). with_ends o.body ++ t) (sym (append-nil (line ++ 10 ∷ []))) ∙ sym (ends_both o.body (line ∷ []));
        all = ap (λ (l : List (List ℕ)). l ++ line ∷ []) o.all;
      };
      all = ap (λ (l : List (List ℕ)). l ++ line ∷ []) read.all ∙ append_assoc (flat_map part_lines read.parts) read.last (line ∷ []);
      whole = one_whole front line read.whole whole;
    }

map_more : (parts : List Part) (part : Part) → map packet_of (parts ++ part ∷ []) ≡ map packet_of parts ++ packet_of part ∷ []
map_more [] part = refl
map_more (first ∷ parts) part = ap (λ (l : List Packet). packet_of first ∷ l) (map_more parts part)

-- its last line
pub closed : (front : List (List ℕ)) (packets all : List Packet) (line : List ℕ) (text longer : String Global) (number : ℕ) (packet : Packet) → HasRead front packets (Within number text) → line ≡ codes "." → string_bytes longer ≡ string_bytes text ++ (line ++ 10 ∷ [])
    → has_byte 10 line ≡ false → packet.number ≡ number → packet.text ≡ string_bytes longer → all ≡ packets ++ packet ∷ [] → HasRead (front ++ line ∷ []) all Between
closed front packets all line text longer number packet read dot e whole numbered told more =
    let o = read.at_place in
    let part : Part = record { number = number; lines = o.body } in
    let whole_text : string_bytes longer ≡ with_ends (text_lines part)
    = e ∙ ap (λ (t : List ℕ). t ++ (line ++ 10 ∷ [])) o.told ∙ ap (λ (l : List ℕ). with_ends o.body ++ (l ++ 10 ∷ [])) dot ∙ sym (ends_both o.body (codes "." ∷ [])) in
    let same : packet ≡ packet_of part = let t : packet.text ≡ with_ends (text_lines part) = told ∙ whole_text in λ j. record { number = numbered j; text = t j } in
    record {
      parts = read.parts ++ part ∷ [];
      last = [];
      each = all_both IsPart read.parts (part ∷ []) read.each (record { some = o.some; few = o.few; open_lines = o.open_lines }, tt);
      are = more ∙ ap (λ (p : Packet). packets ++ p ∷ []) same ∙ ap (λ (l : List Packet). l ++ packet_of part ∷ []) read.are ∙ sym (map_more read.parts part);
      at_place = refl;
      all = closed_lines read.parts part front read.last line (read.all) o.all dot;
      whole = one_whole front line read.whole whole;
    }
  where
    closed_lines : (parts : List Part) (part : Part) (front last : List (List ℕ)) (line : List ℕ) → front ≡ flat_map part_lines parts ++ last → last ≡ head_line part.number ∷ part.lines → line ≡ codes "."
        → front ++ line ∷ [] ≡ flat_map part_lines (parts ++ part ∷ []) ++ []
    closed_lines parts part front last line all opening dot =
        ap (λ (l : List (List ℕ)). l ++ line ∷ []) (all ∙ ap (λ (l : List (List ℕ)). flat_map part_lines parts ++ l) opening)
        ∙ ap (λ (l : List ℕ). (flat_map part_lines parts ++ head_line part.number ∷ part.lines) ++ l ∷ []) dot
        ∙ append_assoc (flat_map part_lines parts) (head_line part.number ∷ part.lines) (codes "." ∷ [])
        ∙ ap (λ (l : List (List ℕ)). flat_map part_lines parts ++ l) (sym (append-nil (part_lines part)))
        ∙ sym (flat_map-append part_lines parts (part ∷ []))
        ∙ sym (append-nil (flat_map part_lines (parts ++ part ∷ [])))

-- ---- what was read is a front

pub front_read : (front : List (List ℕ)) (packets : List Packet) (place : Place) → HasRead front packets place → AreFront front
front_read front packets Between read = record {
  parts = read.parts;
  rest = [];
  each = read.each;
  all = sym (append-nil front ∙ read.all ∙ ap (λ (l : List (List ℕ)). flat_map part_lines read.parts ++ l) read.at_place ∙ append-nil (flat_map part_lines read.parts));
}
front_read front packets (Within number text) read =
    let o = read.at_place in
    let part : Part = record { number = number; lines = o.body } in
    record {
      parts = read.parts ++ part ∷ [];
      rest = codes "." ∷ [];
      each = all_both IsPart read.parts (part ∷ []) read.each (record { some = o.some; few = o.few; open_lines = o.open_lines }, tt);
      all =
          flat_map-append part_lines read.parts (part ∷ [])
          ∙ ap (λ (l : List (List ℕ)). flat_map part_lines read.parts ++ l) (append-nil (part_lines part))
          ∙ sym (append_assoc (flat_map part_lines read.parts) (head_line number ∷ o.body) (codes "." ∷ []))
          ∙ ap (λ (l : List (List ℕ)). l ++ codes "." ∷ []) (sym (read.all ∙ ap (λ (l : List (List ℕ)). flat_map part_lines read.parts ++ l) o.all));
    }

-- a line behind whole packets that is no first line does not belong
pub stray_head : (front : List (List ℕ)) (packets : List Packet) (line : List ℕ) → HasRead front packets Between → ((number : ℕ) → ¬ (IsHead line number)) → ¬ (AreFront (front ++ line ∷ []))
stray_head front packets line read none f =
    let lines : flat_map part_lines f.parts ≡ flat_map part_lines read.parts ++ (line ∷ f.rest)
    = f.all ∙ append_assoc front (line ∷ []) f.rest ∙ ap (λ (l : List (List ℕ)). l ++ line ∷ f.rest) (read.all ∙ ap (λ (l : List (List ℕ)). flat_map part_lines read.parts ++ l) read.at_place ∙ append-nil (flat_map part_lines read.parts)) in
    let g = goes read.parts f.parts (line ∷ f.rest) read.each f.each lines in
    by g.tail g.each g.lines
  where
    by : (tail : List Part) → AllByRecursion IsPart tail → flat_map part_lines tail ≡ line ∷ f.rest → ⊥
    by [] each e = absurd cc
    by (part ∷ tail) each e = none part.number (record { some = each.0.some; few = each.0.few; spelling = sym (let same : head_line part.number ≡ line = cc in same) })

-- ---- the text of lines that were read

pub read_text : (front : List (List ℕ)) (packets : List Packet) (rest : List ℕ) → HasRead front packets Between → rest ≡ [] → IsUtf8 (with_ends front ++ rest) → ArePackets (with_ends front ++ rest) packets
read_text front packets rest read none utf8 =
    let lines : front ≡ flat_map part_lines read.parts = read.all ∙ ap (λ (l : List (List ℕ)). flat_map part_lines read.parts ++ l) read.at_place ∙ append-nil (flat_map part_lines read.parts) in
    record {
      utf8 = utf8;
      each = subst (AllByRecursion IsPacket) (sym read.are) (each read.parts read.each (subst AreWhole lines read.whole));
      text = ap (λ (t : List ℕ). with_ends front ++ t) none ∙ append-nil (with_ends front) ∙ ap with_ends lines ∙ parts_text read.parts ∙ ap (flat_map printed) (sym read.are);
    }
  where
    front_whole : (one other : List (List ℕ)) → AreWhole (one ++ other) → AreWhole one
    front_whole [] other whole = tt
    front_whole (line ∷ one) other whole = (whole.0, front_whole one other whole.1)

    back_whole : (one other : List (List ℕ)) → AreWhole (one ++ other) → AreWhole other
    back_whole [] other whole = whole
    back_whole (line ∷ one) other whole = back_whole one other whole.1

    each : (parts : List Part) → AllByRecursion IsPart parts → AreWhole (flat_map part_lines parts) → AllByRecursion IsPacket (map packet_of parts)
    each [] parts_are whole = tt
    each (part ∷ parts) parts_are whole =
        let own : AreWhole (text_lines part) = front_whole (text_lines part) (flat_map part_lines parts) whole.1 in (
          record { lines = part.lines; part = parts_are.0; whole = front_whole part.lines (codes "." ∷ []) own; text = refl },
          each parts parts_are.1 (back_whole (part_lines part) (flat_map part_lines parts) whole),
        )

-- ---- faults

pub stray_at : (text : List ℕ) (front behind : List (List ℕ)) (packets : List Packet) (place : Place) (line : List ℕ) (number : ℕ) → HasRead front packets place → lines_of text ≡ front ++ line ∷ behind → ¬ (AreFront (front ++ line ∷ []))
    → number ≡ number_at (length front) → IsBadLine text number
stray_at text front behind packets place line number read lines none numbered =
    stray (record { before = front; here = line; behind = behind; parts = lines; front = front_read front packets place read; stray = none; place = numbered })

last_lines : (front : List (List ℕ)) (rest : List ℕ) → AreWhole front → 0 < length rest → has_byte 10 rest ≡ false → lines_of (with_ends front ++ rest) ≡ front ++ rest ∷ []
last_lines front rest whole some none = lines_of-with_ends front rest whole ∙ ap (λ (l : List (List ℕ)). front ++ l) (lines_of-last rest some none)

pub stray_last : (front : List (List ℕ)) (packets : List Packet) (place : Place) (rest : List ℕ) (number : ℕ) → HasRead front packets place → ¬ (AreFront (front ++ rest ∷ [])) → 0 < length rest → has_byte 10 rest ≡ false → number ≡ number_at (length front)
    → IsBadLine (with_ends front ++ rest) number
stray_last front packets place rest number read none some whole numbered = stray_at (with_ends front ++ rest) front [] packets place rest number read (last_lines front rest read.whole some whole) none numbered

-- a packet is open at the end
pub cut_open : (front : List (List ℕ)) (packets : List Packet) (number line : ℕ) (text : String Global) (rest : List ℕ) → HasRead front packets (Within number text) → rest ≡ [] → line ≡ number_at (length front) → IsBadLine (with_ends front ++ rest) line
cut_open front packets number line text rest read none numbered =
    let lines : lines_of (with_ends front ++ rest) ≡ front = ap (λ (r : List ℕ). lines_of (with_ends front ++ r)) none ∙ ap lines_of (append-nil (with_ends front)) ∙ lines_of_ended front read.whole in
    cut (record {
      front = subst AreFront (sym lines) (front_read front packets (Within number text) read);
      no_packets = λ more is.
          let p = has_parts (with_ends front ++ rest) more is in
          let all : flat_map part_lines p.parts ≡ flat_map part_lines read.parts ++ (head_line number ∷ read.at_place.body) = sym p.lines ∙ lines ∙ read.all ∙ ap (λ (l : List (List ℕ)). flat_map part_lines read.parts ++ l) read.at_place.all in
          let g = goes read.parts p.parts (head_line number ∷ read.at_place.body) read.each p.each all in
          by g.tail read.at_place.body read.at_place.open_lines g.lines;
      place = numbered ∙ ap (λ (l : List (List ℕ)). number_at (length l)) (sym lines);
    })
  where
    by : (tail : List Part) (body : List (List ℕ)) → AreOpen body → flat_map part_lines tail ≡ head_line number ∷ body → ⊥
    by [] body open_lines e = absurd cc
    by (part ∷ tail) body open_lines e = no_dot body part.lines (flat_map part_lines tail) open_lines (sym (let behind : text_lines part ++ flat_map part_lines tail ≡ body = cc in behind))

-- the last line belongs, but lacks its LF
pub cut_line : (front : List (List ℕ)) (packets all : List Packet) (place after : Place) (rest : List ℕ) (number : ℕ) → HasRead front packets place → HasRead (front ++ rest ∷ []) all after → 0 < length rest → has_byte 10 rest ≡ false
    → number ≡ number_at (length front + 1) → IsBadLine (with_ends front ++ rest) number
cut_line front packets all place after rest number read taken some none numbered =
    let lines : lines_of (with_ends front ++ rest) ≡ front ++ rest ∷ [] = last_lines front rest read.whole some none in
    let longer : with_ends (front ++ rest ∷ []) ≡ with_ends front ++ (rest ++ 10 ∷ []) = ends_both front (rest ∷ []) ∙ ap (λ (t : List ℕ). with_ends front ++ t) (append-nil (rest ++ 10 ∷ [])) in
    cut (record {
      front = subst AreFront (sym lines) (front_read (front ++ rest ∷ []) all after taken);
      no_packets = λ more is.
          let p = has_parts (with_ends front ++ rest) more is in
          let same : with_ends front ++ rest ≡ with_ends front ++ (rest ++ 10 ∷ []) = p.spelled ∙ ap with_ends (sym p.lines ∙ lines) ∙ longer in
          let sizes : length (with_ends front ++ rest) ≡ length (with_ends front ++ (rest ++ 10 ∷ [])) = ap (λ (t : List ℕ). length t) same in
          let one : length (with_ends front ++ rest) ≡ length (with_ends front) + length rest = length-append (with_ends front) rest in
          let two : length (with_ends front ++ (rest ++ 10 ∷ [])) ≡ length (with_ends front) + length (rest ++ 10 ∷ []) = length-append (with_ends front) (rest ++ 10 ∷ []) in
          let three : length (rest ++ 10 ∷ []) ≡ length rest + 1 = length-append rest (10 ∷ []) in
          absurd (omega (arith, sizes, one, two, three));
      place = numbered ∙ ap number_at (sym (ap (λ (l : List (List ℕ)). length l) lines ∙ length-append front (rest ∷ [])));
    })

-- ---- where a reader of a text stands

pub record IsUpTo (text rest : List ℕ) (packets : List Packet) (place : Place) (number : ℕ) : Type 0 where
  pub front : List (List ℕ)
  pub read : HasRead front packets place
  pub parts : text ≡ with_ends front ++ rest
  pub numbered : number ≡ number_at (length front)
  pub utf8 : IsUtf8 rest

cut_text : (text rest line after : List ℕ) (front : List (List ℕ)) → text ≡ with_ends front ++ rest → rest ≡ line ++ 10 ∷ after → text ≡ with_ends (front ++ line ∷ []) ++ after
cut_text text rest line after front parts e =
    let longer : with_ends (front ++ line ∷ []) ≡ with_ends front ++ (line ++ 10 ∷ []) = ends_both front (line ∷ []) ∙ ap (λ (t : List ℕ). with_ends front ++ t) (append-nil (line ++ 10 ∷ [])) in
    let regroup : with_ends front ++ (line ++ 10 ∷ after) ≡ (with_ends front ++ (line ++ 10 ∷ [])) ++ after = simp append_assoc in
    parts ∙ ap (λ (r : List ℕ). with_ends front ++ r) e ∙ regroup ∙ ap (λ (t : List ℕ). t ++ after) (sym longer)

pub line_more : (text rest line after : List ℕ) (packets all : List Packet) (place next : Place) (number new : ℕ) (at : IsUpTo text rest packets place number) → rest ≡ line ++ 10 ∷ after → HasRead (at.front ++ line ∷ []) all next
    → new ≡ min (number + 1) 4294967295 → IsUtf8 after → IsUpTo text after all next new
line_more text rest line after packets all place next number new at e taken numbered utf8 =
    let size : length (at.front ++ line ∷ []) ≡ length at.front + 1 = length-append at.front (line ∷ []) in
    record {
      front = at.front ++ line ∷ [];
      read = taken;
      parts = cut_text text rest line after at.front at.parts e;
      numbered = numbered ∙ ap (λ (n : ℕ). min (n + 1) 4294967295) at.numbered ∙ omega (arith, size);
      utf8 = utf8;
    }

pub line_stray : (text rest line after : List ℕ) (packets : List Packet) (place : Place) (number : ℕ) (at : IsUpTo text rest packets place number) → rest ≡ line ++ 10 ∷ after → has_byte 10 line ≡ false → ¬ (AreFront (at.front ++ line ∷ []))
    → IsBadLine text number
line_stray text rest line after packets place number at e whole none =
    let lines : lines_of text ≡ at.front ++ line ∷ lines_of after
    = ap lines_of (at.parts ∙ ap (λ (r : List ℕ). with_ends at.front ++ r) e) ∙ lines_of-with_ends at.front (line ++ 10 ∷ after) at.read.whole ∙ ap (λ (l : List (List ℕ)). at.front ++ l) (lines_of-cut line after whole) in
    stray_at text at.front (lines_of after) packets place line number at.read lines none at.numbered

-- ---- one fault, and no packets beside it

fewer_front : (lines more : List (List ℕ)) → AreFront (lines ++ more) → AreFront lines
fewer_front lines more f = record { parts = f.parts; rest = more ++ f.rest; each = f.each; all = f.all ∙ append_assoc lines more f.rest }

whole_front : (text : List ℕ) (packets : List Packet) → ArePackets text packets → AreFront (lines_of text)
whole_front text packets is =
    let p = has_parts text packets is in
    record { parts = p.parts; rest = []; each = p.each; all = sym p.lines ∙ sym (append-nil (lines_of text)) }

bad_no_packets : (text : List ℕ) (number : ℕ) (packets : List Packet) → IsBadLine text number → ¬ (ArePackets text packets)
bad_no_packets text number packets (cut c) is = c.no_packets packets is
bad_no_packets text number packets (stray s) is =
    let parts : lines_of text ≡ (s.before ++ s.here ∷ []) ++ s.behind = s.parts ∙ sym (append_assoc s.before (s.here ∷ []) s.behind) in
    s.stray (fewer_front (s.before ++ s.here ∷ []) s.behind (subst AreFront parts (whole_front text packets is)))

stray_no_front : (text : List ℕ) (number : ℕ) → IsStray text number → ¬ (AreFront (lines_of text))
stray_no_front text number s front =
    let parts : lines_of text ≡ (s.before ++ s.here ∷ []) ++ s.behind = s.parts ∙ sym (append_assoc s.before (s.here ∷ []) s.behind) in
    s.stray (fewer_front (s.before ++ s.here ∷ []) s.behind (subst AreFront parts front))

-- of two lines with what stands before them, the first stands before the second, or they are at one place
before_other : (front before other behind rest : List (List ℕ)) (here there : List ℕ) → before ++ here ∷ behind ≡ other ++ there ∷ rest → ¬ (AreFront (front ++ (before ++ here ∷ []))) → AreFront (front ++ other) → length other ≤ length before
before_other front before [] behind rest here there e none front_is = omega arith
before_other front [] (line ∷ other) behind rest here there e none front_is =
    let same : here ≡ line = cc in
    let parts : front ++ line ∷ other ≡ (front ++ line ∷ []) ++ other = sym (append_assoc front (line ∷ []) other) in
    absurd (none (subst (λ (l : List ℕ). AreFront (front ++ l ∷ [])) (sym same) (fewer_front (front ++ line ∷ []) other (subst AreFront parts front_is))))
before_other front (line ∷ before) (first ∷ other) behind rest here there e none front_is =
    let same : line ≡ first = cc in
    let tails : before ++ here ∷ behind ≡ other ++ there ∷ rest = cc in
    let one : (front ++ line ∷ []) ++ (before ++ here ∷ []) ≡ front ++ line ∷ (before ++ here ∷ []) = append_assoc front (line ∷ []) (before ++ here ∷ []) in
    let two : front ++ first ∷ other ≡ (front ++ line ∷ []) ++ other = ap (λ (l : List ℕ). front ++ l ∷ other) (sym same) ∙ sym (append_assoc front (line ∷ []) other) in
    let shorter : length other ≤ length before = before_other (front ++ line ∷ []) before other behind rest here there tails (λ f. none (subst AreFront one f)) (subst AreFront two front_is) in
    omega (arith, shorter)

bad_once : (text : List ℕ) (one other : ℕ) → IsBadLine text one → IsBadLine text other → one ≡ other
bad_once text one other (cut a) (cut b) = a.place ∙ sym b.place
bad_once text one other (cut a) (stray b) = absurd (stray_no_front text other b a.front)
bad_once text one other (stray a) (cut b) = absurd (stray_no_front text one a b.front)
bad_once text one other (stray a) (stray b) =
    let fewer : length b.before ≤ length a.before = before_other [] a.before b.before a.behind b.behind a.here b.here (sym a.parts ∙ b.parts) a.stray b.front in
    let more : length a.before ≤ length b.before = before_other [] b.before a.before b.behind a.behind b.here a.here (sym b.parts ∙ a.parts) b.stray a.front in
    a.place ∙ ap number_at (omega (arith, fewer, more)) ∙ sym b.place

pub fault_once : (text : List ℕ) (one other : PacketFault) → IsPacketFault text one → IsPacketFault text other → one ≡ other
fault_once text NotUtf8 NotUtf8 a b = refl
fault_once text NotUtf8 (Line number) a b = absurd (a b.0)
fault_once text NotUtf8 NoMemory a b = absurd b
fault_once text (Line line) NotUtf8 a b = absurd (b a.0)
fault_once text (Line line) (Line number) a b = ap (λ (n : ℕ). Line n) (bad_once text line number a.1 b.1)
fault_once text (Line line) NoMemory a b = absurd b
fault_once text NoMemory other a b = absurd a

pub fault_no_packets : (text : List ℕ) (fault : PacketFault) (packets : List Packet) → IsPacketFault text fault → ¬ (ArePackets text packets)
fault_no_packets text NotUtf8 packets is are = is are.utf8
fault_no_packets text (Line number) packets is are = bad_no_packets text number packets is.1 are
fault_no_packets text NoMemory packets is are = absurd is

-- ---- the answer of a reader

pub only_from : (text : List ℕ) (result : Result (List Packet) PacketFault) (packets : List Packet) → IfOk result (ArePackets text) → IfErr result (λ (fault : PacketFault). fault ≢ NoMemory → IsPacketFault text fault) → ArePackets text packets
    → MatchResult result (λ (read : List Packet). read ≡ packets) (λ (fault : PacketFault). fault ≡ NoMemory)
only_from text (Ok read) packets found fault is = packets_once text read packets found is
only_from text (Err NotUtf8) packets found fault is = absurd (fault_no_packets text NotUtf8 packets (fault (λ e. absurd cc)) is)
only_from text (Err (Line number)) packets found fault is = absurd (fault_no_packets text (Line number) packets (fault (λ e. absurd cc)) is)
only_from text (Err NoMemory) packets found fault is = refl

pub only_fault_from : (text : List ℕ) (result : Result (List Packet) PacketFault) (first : PacketFault) → IfOk result (ArePackets text) → IfErr result (λ (fault : PacketFault). fault ≢ NoMemory → IsPacketFault text fault) → IsPacketFault text first
    → MatchResult result (λ (read : List Packet). ⊥) (λ (fault : PacketFault). fault ≢ NoMemory → fault ≡ first)
only_fault_from text (Ok read) first found fault is = fault_no_packets text first read is found
only_fault_from text (Err told) first found fault is = λ some. fault_once text told first (fault some) is

-- where the text is the bytes
module _ (text bytes : List ℕ) (e : text ≡ bytes) (result : Result (List Packet) PacketFault) (found : IfOk result (ArePackets text)) (fault : IfErr result (λ (fault : PacketFault). fault ≢ NoMemory → IsPacketFault text fault)) where
  pub only_of : (packets : List Packet) → ArePackets bytes packets → MatchResult result (λ (read : List Packet). read ≡ packets) (λ (fault : PacketFault). fault ≡ NoMemory)
  only_of packets is = only_from text result packets found fault (subst (λ (t : List ℕ). ArePackets t packets) (sym e) is)

  pub only_fault_of : (first : PacketFault) → IsPacketFault bytes first → MatchResult result (λ (read : List Packet). ⊥) (λ (fault : PacketFault). fault ≢ NoMemory → fault ≡ first)
  only_fault_of first is = only_fault_from text result first found fault (subst (λ (t : List ℕ). IsPacketFault t first) (sym e) is)

-- a text of UTF-8 at fault
pub fault_of_utf8 : (text : List ℕ) (fault : PacketFault) → IsUtf8 text → IsLineFault text fault → IsPacketFault text fault
fault_of_utf8 text NotUtf8 utf8 is = absurd is
fault_of_utf8 text (Line number) utf8 is = (utf8, is)
fault_of_utf8 text NoMemory utf8 is = absurd is
