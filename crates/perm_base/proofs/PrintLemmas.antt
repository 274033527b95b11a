-- A printed rule is these fields.
use Rattle.std.proofs.Common.{◌≡◌, ℕ, ◌<◌, ◌≤◌, ◌||◌, Bool, true, false, List, [], ◌∷◌, ◌++◌, length, map, eqb, refl, sym, ap, arith}
use Rattle.std.proofs.lemmas.Bool.{or_parts}
use Rattle.std.specs.List.{AllZip, flat_map, list_any}
use Rattle.std.proofs.lemmas.List.{append-nil}
use Rattle.text_parts.specs.Blanks.{AreBlanks, is_blank}
use Rattle.perm_base.specs.LineEnds.{AreFields, has_line_end}
use Rattle.text_parts.specs.Lines.{has_byte}
use Rattle.perm_base.specs.FieldLine.{IsFields, IsSpelled, IsWritten, begins_with, ends_with, has_odd_ends, is_quote, needs_quotes, printed, printed_field}
use Rattle.perm_base.specs.FieldLine.IsWritten.{bare, quoted}
use Rattle.perm_base.proofs.QuotedLemmas.{printed_plain, printed_quoted}

no_quote : (field : List ℕ) → has_byte 34 field ≡ false → begins_with is_quote field ≡ false
no_quote [] none = refl
no_quote (byte ∷ field) none = (or_parts (eqb byte 34) (has_byte 34 field) none).0

written_by : (test : Bool) (field : List ℕ) → needs_quotes field ≡ test → has_line_end field ≡ false → IsWritten (printed_field field) field
written_by true field e whole = quoted whole (printed_quoted field e)
written_by false field e whole =
    let quotes = or_parts (eqb (length field) 0 || has_odd_ends field || has_byte 44 field) (has_byte 34 field) e in
    let commas = or_parts (eqb (length field) 0 || has_odd_ends field) (has_byte 44 field) quotes.0 in
    let odd = or_parts (eqb (length field) 0) (has_odd_ends field) commas.0 in
    let back = or_parts (begins_with (λ (byte : ℕ). eqb byte 35) field || begins_with is_blank field) (ends_with is_blank field) odd.1 in
    let front = or_parts (begins_with (λ (byte : ℕ). eqb byte 35) field) (begins_with is_blank field) back.0 in
    bare (record {
      no_quote_in_front = no_quote field quotes.1;
      no_comma = commas.1;
      no_line_end = whole;
      no_blank_in_front = front.1;
      no_blank_behind = back.1;
    }) (printed_plain field e)

-- a printed field is a spelling, also behind blanks
printed_spelled : (front field : List ℕ) → AreBlanks front → has_line_end field ≡ false → IsSpelled (front ++ printed_field field) field
printed_spelled front field blank whole = record {
  front = front;
  text = printed_field field;
  back = [];
  blank_front = blank;
  written = written_by (needs_quotes field) field refl whole;
  blank_back = refl;
  parts = sym (append-nil (front ++ printed_field field));
}

-- the spellings of the further fields, behind a blank each
further : List (List ℕ) → List (List ℕ)
further fields = map (λ (field : List ℕ). 32 ∷ printed_field field) fields

further_spelled : (fields : List (List ℕ)) → list_any has_line_end fields ≡ false → AllZip IsSpelled (further fields) fields
unfolding further
further_spelled [] whole = tt
further_spelled (field ∷ fields) whole =
    let here = or_parts (has_line_end field) (list_any has_line_end fields) whole in
    (printed_spelled (32 ∷ []) field refl here.0, further_spelled fields here.1)

further_joined : (fields : List (List ℕ)) → flat_map (λ (text : List ℕ). (44 ∷ 32 ∷ []) ++ text) (map printed_field fields) ≡ flat_map (λ (text : List ℕ). (44 ∷ []) ++ text) (further fields)
unfolding further
further_joined [] = refl
further_joined (field ∷ fields) = ap (λ (t : List ℕ). 44 ∷ 32 ∷ printed_field field ++ t) (further_joined fields)

pub printed_is : (rule : List (List ℕ)) → AreFields rule → 0 < length rule → length rule ≤ 34 → IsFields (printed rule) rule
printed_is [] fields some few = absurd (omega (arith, some))
printed_is (field ∷ rule) fields some few =
    let here = or_parts (has_line_end field) (list_any has_line_end rule) fields.whole_lines in
    record {
      some = some;
      few = few;
      spellings = printed_field field ∷ further rule;
      spelled = (printed_spelled [] field refl here.0, further_spelled rule here.1);
      parts = ap (λ (t : List ℕ). printed_field field ++ t) (further_joined rule);
    }
