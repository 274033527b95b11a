-- The lines of packets, and the one way in which lines are cut into packets.
use Rattle.std.proofs.Common.{◌≡◌, ℕ, ◌<◌, ◌≤◌, ◌^◌, true, false, List, [], ◌∷◌, ◌++◌, append_assoc, append-nil, codes, decimal, eqb, map, refl, sym, ap, subst, ◌∙◌, arith, true≢false}
use Rattle.std.specs.Char.{is_ascii_digit}
use Rattle.std.specs.Prelude.{flat_map}
use Rattle.std.specs.List.{AllByRecursion}
use Rattle.std.specs.Str.{all_ascii_digits}
use Rattle.std.proofs.lemmas.Bool.{and_parts}
use Rattle.std.proofs.lemmas.Bool.Decides.{nat_tests}
use Rattle.std.proofs.lemmas.Fmt.{decimal_injective, digits_decimal}
use Rattle.std.proofs.lemmas.List.Concat.{flat_map-append}
use Rattle.std.proofs.lemmas.Str.Parse.{numerals_by_value, tells_all_ascii_digits}
use Rattle.log_ship.specs.Helps.Reads.{packet_of}
use Rattle.log_ship.specs.PacketText.{ArePackets, IsPacket, IsPart, Part, is_dot, part_lines, text_lines}
use Rattle.log_ship.specs.Packets.{head_line, printed}
use Rattle.log_ship.specs.declared.packet.Packet.{Packet}
use Rattle.text_parts.proofs.CallerLemmas.{lines_of-with_ends}
use Rattle.text_parts.specs.Lines.{has_byte, lines_of, with_ends}
use Rattle.version_log.specs.Log.{most_versions}

-- no line is `.`
abbrev pub AreOpen : List (List ℕ) → Type 0
AreOpen lines = AllByRecursion (λ (line : List ℕ). is_dot line ≡ false) lines

-- no line holds LF
abbrev pub AreWhole : List (List ℕ) → Type 0
AreWhole lines = AllByRecursion (λ (line : List ℕ). has_byte 10 line ≡ false) lines

-- ---- properties of all elements

pub all_both : {X : Type 0} (P : X → Type 0) (xs ys : List X) → AllByRecursion P xs → AllByRecursion P ys → AllByRecursion P (xs ++ ys)
all_both P [] ys one other = other
all_both P (x ∷ xs) ys one other = (one.0, all_both P xs ys one.1 other)

pub all_front : {X : Type 0} (P : X → Type 0) (xs ys : List X) → AllByRecursion P (xs ++ ys) → AllByRecursion P xs
all_front P [] ys all = tt
all_front P (x ∷ xs) ys all = (all.0, all_front P xs ys all.1)

-- ---- the first `.`

other_line : (line : List ℕ) → is_dot line ≡ false → codes "." ≡ line → ⊥
other_line line none e = true≢false (subst (λ (l : List ℕ). is_dot l ≡ false) (sym e) none)

pub dot_once : (one other rest more : List (List ℕ)) → AreOpen one → AreOpen other → (one ++ codes "." ∷ []) ++ rest ≡ (other ++ codes "." ∷ []) ++ more → (one ≡ other) × (rest ≡ more)
dot_once [] [] rest more a b e = (refl, cc)
dot_once [] (line ∷ other) rest more a b e = absurd (other_line line b.0 cc)
dot_once (line ∷ one) [] rest more a b e = absurd (other_line line a.0 cc)
dot_once (first ∷ one) (line ∷ other) rest more a b e =
    let heads : first ≡ line = cc in
    let tails : (one ++ codes "." ∷ []) ++ rest ≡ (other ++ codes "." ∷ []) ++ more = cc in
    let both = dot_once one other rest more a.1 b.1 tails in
    (ap (λ (l : List ℕ). l ∷ one) heads ∙ ap (λ (l : List (List ℕ)). line ∷ l) both.0, both.1)

pub no_dot : (lines one rest : List (List ℕ)) → AreOpen lines → lines ≡ (one ++ codes "." ∷ []) ++ rest → ⊥
no_dot [] [] rest open_lines e = absurd cc
no_dot [] (line ∷ one) rest open_lines e = absurd cc
no_dot (line ∷ lines) [] rest open_lines e = other_line line open_lines.0 (sym (let same : line ≡ codes "." = cc in same))
no_dot (first ∷ lines) (line ∷ one) rest open_lines e = no_dot lines one rest open_lines.1 (let tails : lines ≡ (one ++ codes "." ∷ []) ++ rest = cc in tails)

-- ---- first lines

pub small_number : (number : ℕ) → number ≤ most_versions → number < 2 ^ 64
small_number number few = omega (arith, few)

pub head_once : (one other : ℕ) → one ≤ most_versions → other ≤ most_versions → head_line one ≡ head_line other → one ≡ other
head_once one other a b e =
    let digits : decimal one ≡ decimal other = cc in
    decimal_injective one other (small_number one a) (small_number other b) digits

digit_is_no_lf : (byte : ℕ) → is_ascii_digit byte ≡ true → eqb byte 10 ≡ false
digit_is_no_lf byte digit = grind (arith, nat_tests)

digits_whole : (digits : List ℕ) → all_ascii_digits digits ≡ true → has_byte 10 digits ≡ false
digits_whole [] all = refl
digits_whole (byte ∷ digits) all =
    let both = and_parts (is_ascii_digit byte) (all_ascii_digits digits) all in
    rw (digit_is_no_lf byte both.0) (digits_whole digits both.1)

pub head_whole : (number : ℕ) → number ≤ most_versions → has_byte 10 (head_line number) ≡ false
head_whole number few = digits_whole (decimal number) (digits_decimal (numerals_by_value _ tells_all_ascii_digits) number (small_number number few))

-- ---- parts

same_part : (one other : Part) → one.number ≡ other.number → one.lines ≡ other.lines → one ≡ other
same_part one other numbers lines = λ j. record { number = numbers j; lines = lines j }

-- parts whose lines begin with those of others
pub record Goes (parts others : List Part) (rest : List (List ℕ)) : Type 0 where
  pub tail : List Part
  pub are : others ≡ parts ++ tail
  pub each : AllByRecursion IsPart tail
  pub lines : flat_map part_lines tail ≡ rest

pub goes : (parts others : List Part) (rest : List (List ℕ)) → AllByRecursion IsPart parts → AllByRecursion IsPart others → flat_map part_lines others ≡ flat_map part_lines parts ++ rest → Goes parts others rest
goes [] others rest one other e = record { tail = others; are = refl; each = other; lines = e }
goes (part ∷ parts) [] rest one other e = absurd cc
goes (part ∷ parts) (first ∷ others) rest one other e =
    let heads : head_line first.number ≡ head_line part.number = cc in
    let behind : text_lines first ++ flat_map part_lines others ≡ (text_lines part ++ flat_map part_lines parts) ++ rest = cc in
    let both = dot_once first.lines part.lines (flat_map part_lines others) (flat_map part_lines parts ++ rest) other.0.open_lines one.0.open_lines (behind ∙ append_assoc (text_lines part) (flat_map part_lines parts) rest) in
    let same : first ≡ part = same_part first part (head_once first.number part.number other.0.few one.0.few heads) both.0 in
    let g = goes parts others rest one.1 other.1 both.1 in
    record {
      tail = g.tail;
      are = ap (λ (p : Part). p ∷ others) same ∙ ap (λ (l : List Part). part ∷ l) g.are;
      each = g.each;
      lines = g.lines;
    }

pub parts_once : (parts others : List Part) → AllByRecursion IsPart parts → AllByRecursion IsPart others → flat_map part_lines others ≡ flat_map part_lines parts → others ≡ parts
parts_once parts others one other e =
    let g = goes parts others [] one other (e ∙ sym (append-nil (flat_map part_lines parts))) in
    g.are ∙ none g.tail g.lines
  where
    none : (tail : List Part) → flat_map part_lines tail ≡ [] → parts ++ tail ≡ parts
    none [] e = append-nil parts
    none (part ∷ tail) e = absurd cc

-- ---- the text of parts

pub ends_both : (one other : List (List ℕ)) → with_ends (one ++ other) ≡ with_ends one ++ with_ends other
ends_both one other = flat_map-append (λ (text : List ℕ). text ++ 10 ∷ []) one other

pub parts_text : (parts : List Part) → with_ends (flat_map part_lines parts) ≡ flat_map printed (map packet_of parts)
parts_text [] = refl
parts_text (part ∷ parts) =
    ends_both (part_lines part) (flat_map part_lines parts)
    ∙ ap (λ (t : List ℕ). t ++ with_ends (flat_map part_lines parts)) (append_assoc (head_line part.number) (10 ∷ []) (with_ends (text_lines part)))
    ∙ ap (λ (t : List ℕ). printed (packet_of part) ++ t) (parts_text parts)

part_whole : (part : Part) → IsPart part → AreWhole part.lines → AreWhole (part_lines part)
part_whole part is whole = (head_whole part.number is.few, all_both (λ (line : List ℕ). has_byte 10 line ≡ false) part.lines (codes "." ∷ []) whole (refl, tt))

-- the parts of packets
pub record InParts (packets : List Packet) : Type 0 where
  pub parts : List Part
  pub each : AllByRecursion IsPart parts
  pub are : packets ≡ map packet_of parts
  pub whole : AreWhole (flat_map part_lines parts)

pub in_parts : (packets : List Packet) → AllByRecursion IsPacket packets → InParts packets
in_parts [] each = record { parts = []; each = tt; are = refl; whole = tt }
in_parts (packet ∷ packets) each =
    let rest = in_parts packets each.1 in
    let part : Part = record { number = packet.number; lines = each.0.lines } in
    let same : packet ≡ packet_of part = let text : packet.text ≡ with_ends (text_lines part) = each.0.text in λ j. record { number = packet.number; text = text j } in
    record {
      parts = part ∷ rest.parts;
      each = (each.0.part, rest.each);
      are = ap (λ (p : Packet). p ∷ packets) same ∙ ap (λ (l : List Packet). packet_of part ∷ l) rest.are;
      whole = all_both (λ (line : List ℕ). has_byte 10 line ≡ false) (part_lines part) (flat_map part_lines rest.parts) (part_whole part each.0.part each.0.whole) rest.whole;
    }

-- ---- the lines of a text

pub lines_of_ended : (lines : List (List ℕ)) → AreWhole lines → lines_of (with_ends lines) ≡ lines
unfolding lines_of
lines_of_ended lines whole = ap lines_of (sym (append-nil (with_ends lines))) ∙ lines_of-with_ends lines [] whole ∙ append-nil lines

-- the lines of packets' text
pub record HasParts (text : List ℕ) (packets : List Packet) : Type 0 where
  pub parts : List Part
  pub each : AllByRecursion IsPart parts
  pub are : packets ≡ map packet_of parts
  pub lines : lines_of text ≡ flat_map part_lines parts
  pub spelled : text ≡ with_ends (flat_map part_lines parts)

pub has_parts : (text : List ℕ) (packets : List Packet) → ArePackets text packets → HasParts text packets
has_parts text packets is =
    let p = in_parts packets is.each in
    let spelled : text ≡ with_ends (flat_map part_lines p.parts) = is.text ∙ ap (flat_map printed) p.are ∙ sym (parts_text p.parts) in
    record {
      parts = p.parts;
      each = p.each;
      are = p.are;
      lines = ap lines_of spelled ∙ lines_of_ended (flat_map part_lines p.parts) p.whole;
      spelled = spelled;
    }

-- a text says one list of packets
pub packets_once : (text : List ℕ) (one other : List Packet) → ArePackets text one → ArePackets text other → one ≡ other
packets_once text one other a b =
    let p = has_parts text one a in
    let q = has_parts text other b in
    p.are ∙ ap (map packet_of) (parts_once q.parts p.parts q.each p.each (sym p.lines ∙ q.lines)) ∙ sym q.are
