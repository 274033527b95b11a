-- A field that is spelled at the front of a text is read, and a field that is bad is met as a fault.
use Rattle.std.proofs.Common.{◌≡◌, ◌≢◌, ℕ, ◌-◌, ◌≤◌, Bool, true, false, List, [], ◌∷◌, ◌++◌, length, eqb, reverse, Option, Some, None, Result, Ok, Err, refl, sym, ap, ◌∙◌, arith, rules, tests}
use Rattle.std.proofs.lemmas.Bool.{and_parts, or_parts}
use Rattle.std.specs.List.{list_all, list_any}
use Rattle.std.proofs.lemmas.List.{append_assoc, append-nil, length-append, reverse-reverse}
use Rattle.std.proofs.lemmas.List.Folds.{list_any-append}
use Rattle.text_parts.proofs.CallerLemmas.{passing_is_other}
use Rattle.text_parts.proofs.BlankLemmas.{before_blanks-blanks, before_blanks-reverse, behind_blanks-blanks}
use Rattle.text_parts.specs.Blanks.{AreBlanks, before_blanks, behind_blanks, is_blank}
use Rattle.perm_base.specs.LineEnds.{has_line_end, is_line_end}
use Rattle.text_parts.specs.Lines.{has_byte}
use Rattle.perm_base.specs.declared.quoted.FieldFault.{FieldFault}
use Rattle.perm_base.specs.declared.quoted.FieldFault.TheVariants.{Quote}
use Rattle.perm_base.specs.FieldLine.{IsBare, IsSpelled, IsWritten, begins_with, doubled, ends_with, in_quotes, is_comma, is_quote}
use Rattle.perm_base.specs.FieldLine.IsWritten.{bare, quoted}
use Rattle.perm_base.specs.FieldFaults.{IsBad, IsBareLineEnd, IsNeverClosed, IsNotEnded, IsQuotedLineEnd}
use Rattle.perm_base.specs.FieldFaults.IsBad.{never_closed, not_ended, bare_line_end, quoted_line_end}
use Rattle.perm_base.specs.FieldSteps.{Read, before_comma, behind_comma, closed_field, column_of, first_field, full_field, line_end_column, more_quoted, plain_field, quoted_field, quoted_text}
use Rattle.perm_base.proofs.QuotedLemmas.{at_comma, before_comma-none, closed_other, closing, first_plain, first_quoted, more_byte, plain_fault, plain_read, quoted_closed, quoted_fault, quoted_open, twice}
use Rattle.perm_base.proofs.SpellingLemmas.{begins_both, blanks_no_quote, column_first, line_end_no_blank, line_end_no_comma, line_end_no_quote, quote_is, tail_of}
use Rattle.perm_base.proofs.ReadLemmas.{doubled_append, doubled_other, doubled_whole}

-- a text that has no blanks at an end
full_stays : (text : List ℕ) → begins_with is_blank text ≡ false → behind_blanks text ≡ text
full_stays [] full = refl
full_stays (byte ∷ text) full = rw full refl

back_dropped : (text blanks : List ℕ) → AreBlanks blanks → ends_with is_blank text ≡ false → before_blanks (text ++ blanks) ≡ text
back_dropped text blanks all full = before_blanks-blanks text blanks all ∙ before_blanks-reverse text ∙ ap reverse (full_stays (reverse text) full) ∙ reverse-reverse text

no_such : (test : ℕ → Bool) (byte : ℕ) (text behind : List ℕ) → test byte ≡ true → begins_with test text ≡ false → text ≢ byte ∷ behind
no_such test byte text behind is none e =
    let here : begins_with test text ≡ test byte = ap (begins_with test) e in
    absurd cc

pub drops : (size : ℕ) (blanks text : List ℕ) → AreBlanks blanks → first_field size (blanks ++ text) ≡ first_field size text
unfolding first_field
drops size blanks text all = ap (full_field size) (behind_blanks-blanks blanks text all)

-- tests of bytes in two parts
lacks_both : (test : ℕ → Bool) (front back : List ℕ) → list_any test front ≡ false → list_any test back ≡ false → list_any test (front ++ back) ≡ false
lacks_both test front back one other = list_any-append test front back ∙ rw (one, other) refl

blanks_whole : (blanks : List ℕ) → AreBlanks blanks → has_line_end blanks ≡ false
blanks_whole [] all = refl
blanks_whole (byte ∷ blanks) all =
    let here = and_parts (is_blank byte) (list_all is_blank blanks) all in
    rw (passing_is_other is_blank byte 13 here.0 refl, passing_is_other is_blank byte 10 here.0 refl) (blanks_whole blanks here.1)

blanks_no_comma : (blanks : List ℕ) → AreBlanks blanks → has_byte 44 blanks ≡ false
blanks_no_comma [] all = refl
blanks_no_comma (byte ∷ blanks) all =
    let here = and_parts (is_blank byte) (list_all is_blank blanks) all in
    rw (passing_is_other is_blank byte 44 here.0 refl) (blanks_no_comma blanks here.1)

-- a field as it is
empty_read : (size : ℕ) (behind : Option (List ℕ)) → first_field size (tail_of behind) ≡ Ok ([], behind)
unfolding first_field full_field plain_field before_comma behind_comma
empty_read size None = refl
empty_read size (Some behind) = refl

cut_back : (text : List ℕ) (behind : Option (List ℕ)) → has_byte 44 text ≡ false → (text ≡ before_comma (text ++ tail_of behind)) × (behind ≡ behind_comma (text ++ tail_of behind))
cut_back text None none =
    let there = before_comma-none text none in
    (sym (ap before_comma (append-nil text) ∙ there.0), sym (ap behind_comma (append-nil text) ∙ there.1))
cut_back text (Some behind) none =
    let there = at_comma text behind none in
    (sym there.0, sym there.1)

bare_read : (size : ℕ) (field back : List ℕ) (behind : Option (List ℕ)) → IsBare field → AreBlanks back → first_field size (field ++ back ++ tail_of behind) ≡ Ok (field, behind)
bare_read size [] back behind is blank = drops size back (tail_of behind) blank ∙ empty_read size behind
bare_read size (byte ∷ field) back behind is blank =
    let text = byte ∷ field in
    let before = text ++ back in
    let rest = before ++ tail_of behind in
    let cut = cut_back before behind (lacks_both (λ (b : ℕ). eqb b 44) text back is.no_comma (blanks_no_comma back blank)) in
    first_plain size rest rest (sym (full_stays rest is.no_blank_in_front)) (λ inside. no_such is_quote 34 rest inside refl is.no_quote_in_front) ∙ plain_read size rest before text behind cut.0 (lacks_both is_line_end text back is.no_line_end (blanks_whole back blank)) (sym (back_dropped text back blank is.no_blank_behind)) cut.1

-- a field in quotes
one_back : (byte : ℕ) (test : Bool) (field tail : List ℕ) → is_quote byte ≡ test → quoted_text (doubled field ++ 34 ∷ tail) ≡ Some (field, tail) → quoted_text (doubled (byte ∷ field) ++ 34 ∷ tail) ≡ Some (byte ∷ field, tail)
unfolding doubled
one_back byte true field tail e rest = rw (quote_is byte e) (twice (doubled field ++ 34 ∷ tail) ∙ ap (more_quoted (34 ∷ [])) rest)
one_back byte false field tail e rest = rw e (more_byte byte (doubled field ++ 34 ∷ tail) e ∙ ap (more_quoted (byte ∷ [])) rest)

quoted_back : (field tail : List ℕ) → begins_with is_quote tail ≡ false → quoted_text (doubled field ++ 34 ∷ tail) ≡ Some (field, tail)
unfolding doubled
quoted_back [] tail other = closing tail (λ behind. no_such is_quote 34 tail behind refl other)
quoted_back (byte ∷ field) tail other = one_back byte (is_quote byte) field tail refl (quoted_back field tail other)

one_open : (byte : ℕ) (test : Bool) (inside : List ℕ) → is_quote byte ≡ test → quoted_text (doubled inside) ≡ None → quoted_text (doubled (byte ∷ inside)) ≡ None
unfolding doubled
one_open byte true inside e rest = rw (quote_is byte e) (twice (doubled inside) ∙ ap (more_quoted (34 ∷ [])) rest)
one_open byte false inside e rest = rw e (more_byte byte (doubled inside) e ∙ ap (more_quoted (byte ∷ [])) rest)

open_back : (inside : List ℕ) → quoted_text (doubled inside) ≡ None
unfolding doubled quoted_text
open_back [] = refl
open_back (byte ∷ inside) = one_open byte (is_quote byte) inside refl (open_back inside)

begins_quoted : (size : ℕ) (inside : List ℕ) → first_field size (34 ∷ inside) ≡ quoted_field size inside
begins_quoted size inside = first_quoted size (34 ∷ inside) (34 ∷ inside) inside (sym (full_stays (34 ∷ inside) refl)) refl

-- behind a field in quotes
closed_back : (size : ℕ) (text : List ℕ) (behind : Option (List ℕ)) → closed_field size text (behind_blanks (tail_of behind)) ≡ Ok (text, behind)
unfolding closed_field
closed_back size text None = refl
closed_back size text (Some behind) = refl

tail_no_quote : (behind : Option (List ℕ)) → begins_with is_quote (tail_of behind) ≡ false
tail_no_quote None = refl
tail_no_quote (Some behind) = refl

closed_to : (size : ℕ) (field after : List ℕ) → has_line_end field ≡ false → begins_with is_quote after ≡ false → first_field size (in_quotes field ++ after) ≡ closed_field size field (behind_blanks after)
closed_to size field after none other =
    let inside = doubled field ++ 34 ∷ after in
    let parts : in_quotes field ++ after ≡ 34 ∷ inside = simp append_assoc in
    ap (first_field size) parts ∙ begins_quoted size inside ∙ quoted_closed size inside field after (quoted_back field after other) none

quoted_read : (size : ℕ) (field back : List ℕ) (behind : Option (List ℕ)) → has_line_end field ≡ false → AreBlanks back → first_field size (in_quotes field ++ back ++ tail_of behind) ≡ Ok (field, behind)
quoted_read size field back behind none blank =
    let tail = tail_of behind in
    ap (first_field size) (append_assoc (in_quotes field) back tail) ∙ closed_to size field (back ++ tail) none (begins_both is_quote back tail (blanks_no_quote back blank) (tail_no_quote behind)) ∙ ap (closed_field size field) (behind_blanks-blanks back tail blank) ∙ closed_back size field behind

written_read : (size : ℕ) (text field back : List ℕ) (behind : Option (List ℕ)) → IsWritten text field → AreBlanks back → first_field size (text ++ back ++ tail_of behind) ≡ Ok (field, behind)
written_read size text field back behind (bare is e) blank = ap (λ (t : List ℕ). first_field size (t ++ back ++ tail_of behind)) e ∙ bare_read size field back behind is blank
written_read size text field back behind (quoted none e) blank = ap (λ (t : List ℕ). first_field size (t ++ back ++ tail_of behind)) e ∙ quoted_read size field back behind none blank

-- what is spelled is read
pub first_read : (size : ℕ) (spelling field : List ℕ) (behind : Option (List ℕ)) → IsSpelled spelling field → first_field size (spelling ++ tail_of behind) ≡ Ok (field, behind)
first_read size spelling field behind is =
    let tail = tail_of behind in
    let parts : spelling ++ tail ≡ is.front ++ (is.text ++ is.back ++ tail) = ap (λ (t : List ℕ). t ++ tail) is.parts ∙ simp append_assoc in
    ap (first_field size) parts ∙ drops size is.front (is.text ++ is.back ++ tail) is.blank_front ∙ written_read size is.text field is.back behind is.written is.blank_back

-- a fault is met at its place
pub record FaultIs (size : ℕ) (text : List ℕ) (at : ℕ) : Type 0 where
  pub met : first_field size text ≡ Err (Quote (column_of size (length text - at)))
  pub within : at ≤ length text

quote_at : ℕ → ℕ → Result Read FieldFault
quote_at size left = Err (Quote (column_of size left))

never_met : (size : ℕ) (text : List ℕ) (at : ℕ) → IsNeverClosed text at → FaultIs size text at
unfolding quote_at
never_met size text at is =
    let inside = doubled is.inside in
    record {
      met = ap (first_field size) is.parts ∙ drops size is.front (34 ∷ inside) is.blank_front ∙ begins_quoted size inside ∙ quoted_open size inside (open_back is.inside) ∙ ap (quote_at size) (omega (arith, is.place, ap length is.parts, length-append is.front (34 ∷ inside)));
      within = omega (arith, is.place, ap length is.parts, length-append is.front (34 ∷ inside));
    }

not_ended_met : (size : ℕ) (text : List ℕ) (at : ℕ) → IsNotEnded text at → FaultIs size text at
unfolding quote_at
not_ended_met size text at is =
    let rest = is.byte ∷ is.behind in
    let front = is.front ++ in_quotes is.field ++ is.back in
    let parts : text ≡ is.front ++ (in_quotes is.field ++ (is.back ++ rest)) = is.parts ∙ simp append_assoc in
    record {
      met = ap (first_field size) parts ∙ drops size is.front (in_quotes is.field ++ (is.back ++ rest)) is.blank_front ∙ closed_to size is.field (is.back ++ rest) is.no_line_end is.closed ∙ ap (closed_field size is.field) (behind_blanks-blanks is.back rest is.blank_back ∙ full_stays rest is.no_blank) ∙ closed_other size is.field rest (omega arith) (λ behind. no_such is_comma 44 rest behind refl is.no_comma) ∙ ap (quote_at size) (omega (arith, is.place, ap length is.parts, length-append front rest));
      within = omega (arith, is.place, ap length is.parts, length-append front rest);
    }

-- CR and LF
line_end_here : (before after : List ℕ) (byte : ℕ) → is_line_end byte ≡ true → has_line_end (before ++ byte ∷ after) ≡ true
line_end_here [] after byte here = rw here refl
line_end_here (b ∷ before) after byte here = rw (line_end_here before after byte here) (search (rules, tests))

comma_past : (before behind : List ℕ) (byte : ℕ) → has_byte 44 before ≡ false → is_comma byte ≡ false → before_comma (before ++ byte ∷ behind) ≡ before ++ byte ∷ before_comma behind
unfolding before_comma
comma_past [] behind byte none other = rw other refl
comma_past (b ∷ before) behind byte none other =
    let here = or_parts (eqb b 44) (has_byte 44 before) none in
    rw here.0 (ap (λ (t : List ℕ). b ∷ t) (comma_past before behind byte here.1 other))

bare_met : (size : ℕ) (text : List ℕ) (at : ℕ) → IsBareLineEnd text at → FaultIs size text at
unfolding quote_at
bare_met size text at is =
    let rest = is.before ++ is.byte ∷ is.behind in
    let parts : text ≡ is.front ++ rest = is.parts ∙ append_assoc is.front is.before (is.byte ∷ is.behind) in
    let full : begins_with is_blank rest ≡ false = begins_both is_blank is.before (is.byte ∷ is.behind) is.no_blank_in_front (line_end_no_blank is.byte is.line_end) in
    let unquoted : begins_with is_quote rest ≡ false = begins_both is_quote is.before (is.byte ∷ is.behind) is.no_quote_in_front (line_end_no_quote is.byte is.line_end) in
    let holds : has_line_end (before_comma rest) ≡ true = ap has_line_end (comma_past is.before is.behind is.byte is.no_comma (line_end_no_comma is.byte is.line_end)) ∙ line_end_here is.before (before_comma is.behind) is.byte is.line_end in
    record {
      met = ap (first_field size) parts ∙ drops size is.front rest is.blank_front ∙ first_plain size rest rest (sym (full_stays rest full)) (λ inside. no_such is_quote 34 rest inside refl unquoted) ∙ plain_fault size (line_end_column size rest) rest (before_comma rest) refl holds refl ∙ ap (λ (n : ℕ). Err (Quote n)) (column_first size is.before is.behind is.byte is.no_line_end is.line_end) ∙ ap (quote_at size) (omega (arith, is.place, ap length parts, length-append is.front rest, length-append is.front is.before));
      within = omega (arith, is.place, ap length is.parts, length-append (is.front ++ is.before) (is.byte ∷ is.behind));
    }

quoted_met : (size : ℕ) (text : List ℕ) (at : ℕ) → IsQuotedLineEnd text at → FaultIs size text at
unfolding quote_at
quoted_met size text at is =
    let field = is.before ++ is.byte ∷ is.after in
    let inside = doubled field ++ 34 ∷ is.behind in
    let behind = doubled is.after ++ 34 ∷ is.behind in
    let parts : text ≡ is.front ++ 34 ∷ inside = is.parts ∙ simp append_assoc in
    let split : doubled field ≡ doubled is.before ++ is.byte ∷ doubled is.after = doubled_append is.before (is.byte ∷ is.after) ∙ ap (λ (t : List ℕ). doubled is.before ++ t) (doubled_other is.byte is.after (line_end_no_quote is.byte is.line_end)) in
    let whole : inside ≡ doubled is.before ++ is.byte ∷ behind = ap (λ (t : List ℕ). t ++ 34 ∷ is.behind) split ∙ append_assoc (doubled is.before) (is.byte ∷ doubled is.after) (34 ∷ is.behind) in
    let column : line_end_column size inside ≡ column_of size (length inside - length (doubled is.before)) = rw whole (column_first size (doubled is.before) behind is.byte (doubled_whole is.before is.no_line_end) is.line_end) in
    record {
      met = ap (first_field size) parts ∙ drops size is.front (34 ∷ inside) is.blank_front ∙ begins_quoted size inside ∙ quoted_fault size (line_end_column size inside) inside field is.behind (quoted_back field is.behind is.closed) (line_end_here is.before is.after is.byte is.line_end) refl ∙ ap (λ (n : ℕ). Err (Quote n)) column ∙ ap (quote_at size) (omega (arith, is.place, ap length parts, length-append is.front (34 ∷ inside), length-append is.front (34 ∷ doubled is.before)));
      within = omega (arith, is.place, ap length parts, ap length whole, length-append is.front (34 ∷ inside), length-append is.front (34 ∷ doubled is.before), length-append (doubled is.before) (is.byte ∷ behind));
    }

pub bad_met : (size : ℕ) (text : List ℕ) (at : ℕ) → IsBad text at → FaultIs size text at
bad_met size text at (never_closed is) = never_met size text at is
bad_met size text at (not_ended is) = not_ended_met size text at is
bad_met size text at (bare_line_end is) = bare_met size text at is
bad_met size text at (quoted_line_end is) = quoted_met size text at is
