-- A field that is read is spelled at the front of the text, and a fault that is met stands there.
use Rattle.std.proofs.Common.{◌≡◌, ℕ, ◌-◌, Bool, true, false, cond, List, [], ◌∷◌, ◌++◌, length, eqb, Option, Some, None, Result, Ok, Err, refl, sym, ap, ◌∙◌, arith}
use Rattle.std.proofs.lemmas.Bool.{or_parts}
use Rattle.std.proofs.lemmas.List.{append_assoc, length-append}
use Rattle.text_parts.specs.Blanks.{AreBlanks, before_blanks, behind_blanks, is_blank}
use Rattle.perm_base.specs.LineEnds.{has_line_end, is_line_end}
use Rattle.text_parts.specs.Lines.{has_byte}
use Rattle.perm_base.specs.declared.quoted.FieldFault.{FieldFault}
use Rattle.perm_base.specs.declared.quoted.FieldFault.TheVariants.{Quote, TooMany, NoMemory}
use Rattle.perm_base.specs.FieldLine.{IsSpelled, begins_with, doubled, in_quotes, is_comma, is_quote}
use Rattle.perm_base.specs.FieldLine.IsWritten.{bare, quoted}
use Rattle.perm_base.specs.FieldFaults.{IsBad}
use Rattle.perm_base.specs.FieldFaults.IsBad.{never_closed, not_ended, bare_line_end, quoted_line_end}
use Rattle.perm_base.specs.FieldSteps.{Read, before_comma, behind_comma, closed_field, column_of, first_field, full_field, line_end_column, more_quoted, plain_field, quoted_field, quoted_part, quoted_text}
use Rattle.perm_base.proofs.SpellingLemmas.{HasBack, HasComma, HasFront, HasLineEnd, back_split, begins_front, column_first, comma_is, comma_split, front_split, lacks_front, line_end_no_quote, line_end_split, quote_is, tail_of}

-- the text begins with a spelling of the field, and with what stands behind it
pub record IsRead (text field : List ℕ) (behind : Option (List ℕ)) : Type 0 where
  pub spelling : List ℕ
  pub spelled : IsSpelled spelling field
  pub parts : text ≡ spelling ++ tail_of behind

-- the field at the front of the last bytes of a line of this size is bad at the column
pub record IsMet (size : ℕ) (text : List ℕ) (column : ℕ) : Type 0 where
  pub at : ℕ
  pub bad : IsBad text at
  pub there : column ≡ column_of size (length text - at)

-- what reading the field at the front of a text comes to
abbrev pub Meets : ℕ → List ℕ → Result Read FieldFault → Type 0
Meets size text (Ok read) = IsRead text (read.0) (read.1)
Meets size text (Err (Quote column)) = IsMet size text column
Meets size text (Err TooMany) = ⊥
Meets size text (Err NoMemory) = ⊥

-- doubled quotes
pub doubled_append : (front back : List ℕ) → doubled (front ++ back) ≡ doubled front ++ doubled back
unfolding doubled
doubled_append [] back = refl
doubled_append (byte ∷ front) back = one (is_quote byte) (doubled_append front back)
  where
    one : (test : Bool) → doubled (front ++ back) ≡ doubled front ++ doubled back → cond test (34 ∷ 34 ∷ doubled (front ++ back)) (byte ∷ doubled (front ++ back)) ≡ cond test (34 ∷ 34 ∷ doubled front) (byte ∷ doubled front) ++ doubled back
    one true rest = ap (λ (t : List ℕ). 34 ∷ 34 ∷ t) rest
    one false rest = ap (λ (t : List ℕ). byte ∷ t) rest

pub doubled_other : (byte : ℕ) (text : List ℕ) → is_quote byte ≡ false → doubled (byte ∷ text) ≡ byte ∷ doubled text
unfolding doubled
doubled_other byte text e = rw e refl

pub doubled_whole : (text : List ℕ) → has_line_end text ≡ false → has_line_end (doubled text) ≡ false
unfolding doubled
doubled_whole [] none = refl
doubled_whole (byte ∷ text) none =
    let here = or_parts (is_line_end byte) (has_line_end text) none in
    one (is_quote byte) here.0 (doubled_whole text here.1)
  where
    one : (test : Bool) → is_line_end byte ≡ false → has_line_end (doubled text) ≡ false → has_line_end (cond test (34 ∷ 34 ∷ doubled text) (byte ∷ doubled text)) ≡ false
    one true here rest = rest
    one false here rest = rw here rest

-- what a quoted text is cut into
abbrev IsCut : List ℕ → Option (List ℕ × List ℕ) → Type 0
IsCut bytes None = (inside : List ℕ) × (bytes ≡ doubled inside)
IsCut bytes (Some cut) = (bytes ≡ doubled (cut.0) ++ 34 ∷ cut.1) × (begins_with is_quote (cut.1) ≡ false)

cut_more : (byte : ℕ) (bytes : List ℕ) (found : Option (List ℕ × List ℕ)) → is_quote byte ≡ false → IsCut bytes found → IsCut (byte ∷ bytes) (more_quoted (byte ∷ []) found)
cut_more byte bytes None e cut = (byte ∷ cut.0, ap (λ (t : List ℕ). byte ∷ t) cut.1 ∙ sym (doubled_other byte cut.0 e))
cut_more byte bytes (Some parts) e cut = (ap (λ (t : List ℕ). byte ∷ t) cut.0 ∙ ap (λ (t : List ℕ). t ++ 34 ∷ parts.1) (sym (doubled_other byte parts.0 e)), cut.1)

cut_twice : (bytes : List ℕ) (found : Option (List ℕ × List ℕ)) → IsCut bytes found → IsCut (34 ∷ 34 ∷ bytes) (more_quoted (34 ∷ []) found)
unfolding doubled
cut_twice bytes None cut = (34 ∷ cut.0, ap (λ (t : List ℕ). 34 ∷ 34 ∷ t) cut.1)
cut_twice bytes (Some parts) cut = (ap (λ (t : List ℕ). 34 ∷ 34 ∷ t) cut.0, cut.1)

cut_last : (test : Bool) (byte : ℕ) → is_quote byte ≡ test → IsCut (byte ∷ []) (cond test (Some ([], [])) None)
unfolding doubled
cut_last true byte e = (ap (λ (b : ℕ). b ∷ []) (quote_is byte e), refl)
cut_last false byte e = (byte ∷ [], sym (doubled_other byte [] e))

cut_next : (next : Bool) (byte : ℕ) (bytes : List ℕ) (found : Option (List ℕ × List ℕ)) → is_quote byte ≡ next → IsCut bytes found → IsCut (34 ∷ byte ∷ bytes) (cond next (more_quoted (34 ∷ []) found) (Some ([], byte ∷ bytes)))
unfolding doubled
cut_next true byte bytes found e cut = rw (quote_is byte e) (cut_twice bytes found cut)
cut_next false byte bytes found e cut = (refl, e)

quoted_split : (bytes : List ℕ) → IsCut bytes (quoted_text bytes)
unfolding quoted_text doubled
quoted_split [] = ([], refl)
quoted_split (byte ∷ []) = cut_last (is_quote byte) byte refl
quoted_split (byte ∷ next ∷ bytes) = one (is_quote byte) refl (quoted_split bytes) (quoted_split (next ∷ bytes))
  where
    one : (test : Bool) → is_quote byte ≡ test → IsCut bytes (quoted_text bytes) → IsCut (next ∷ bytes) (quoted_text (next ∷ bytes)) → IsCut (byte ∷ next ∷ bytes) (cond test (cond (is_quote next) (more_quoted (34 ∷ []) (quoted_text bytes)) (Some ([], next ∷ bytes))) (more_quoted (byte ∷ []) (quoted_text (next ∷ bytes))))
    one true e short long = rw (quote_is byte e) (cut_next (is_quote next) next bytes (quoted_text bytes) refl short)
    one false e short long = cut_more byte (next ∷ bytes) (quoted_text (next ∷ bytes)) e long

-- a field without quotes
module _ (size : ℕ) (text blanks bytes : List ℕ) (blank : AreBlanks blanks) (parts : text ≡ blanks ++ bytes) (full : begins_with is_blank bytes ≡ false) (unquoted : begins_with is_quote bytes ≡ false) where
  plain_fault : HasComma bytes (before_comma bytes) (behind_comma bytes) → HasLineEnd (before_comma bytes) → IsMet size text (line_end_column size bytes)
  plain_fault cut ends =
      let tail = tail_of (behind_comma bytes) in
      let whole : bytes ≡ ends.before ++ ends.byte ∷ (ends.after ++ tail) = cut.parts ∙ ap (λ (t : List ℕ). t ++ tail) ends.parts ∙ append_assoc ends.before (ends.byte ∷ ends.after) tail in
      let here : line_end_column size bytes ≡ column_of size (length bytes - length ends.before) = rw whole (column_first size ends.before (ends.after ++ tail) ends.byte ends.no_line_end ends.line_end) in
      record {
        at = length (blanks ++ ends.before);
        bad = bare_line_end (record {
          front = blanks;
          before = ends.before;
          byte = ends.byte;
          behind = ends.after ++ tail;
          blank_front = blank;
          no_blank_in_front = begins_front is_blank ends.before (ends.byte ∷ (ends.after ++ tail)) (ap (begins_with is_blank) (sym whole) ∙ full);
          no_quote_in_front = begins_front is_quote ends.before (ends.byte ∷ (ends.after ++ tail)) (ap (begins_with is_quote) (sym whole) ∙ unquoted);
          no_comma = lacks_front (λ (b : ℕ). eqb b 44) ends.before (ends.byte ∷ ends.after) (ap (has_byte 44) (sym ends.parts) ∙ cut.no_comma);
          no_line_end = ends.no_line_end;
          line_end = ends.line_end;
          parts = parts ∙ ap (λ (t : List ℕ). blanks ++ t) whole ∙ sym (append_assoc blanks ends.before (ends.byte ∷ (ends.after ++ tail)));
          place = refl;
        });
        there = here ∙ ap (column_of size) (omega (arith, ap length parts, length-append blanks bytes, length-append blanks ends.before));
      }

  plain_read : HasComma bytes (before_comma bytes) (behind_comma bytes) → has_line_end (before_comma bytes) ≡ false → HasBack (before_comma bytes) (before_blanks (before_comma bytes)) → IsRead text (before_blanks (before_comma bytes)) (behind_comma bytes)
  plain_read cut none back =
      let before = before_comma bytes in
      let field = before_blanks before in
      let tail = tail_of (behind_comma bytes) in
      let begins : (test : ℕ → Bool) → begins_with test bytes ≡ false → begins_with test field ≡ false = λ test e. begins_front test field back.blanks (ap (begins_with test) (sym back.parts) ∙ begins_front test before tail (ap (begins_with test) (sym cut.parts) ∙ e)) in
      record {
        spelling = blanks ++ field ++ back.blanks;
        spelled = record {
          front = blanks;
          text = field;
          back = back.blanks;
          blank_front = blank;
          written = bare (record {
            no_quote_in_front = begins is_quote unquoted;
            no_comma = lacks_front (λ (b : ℕ). eqb b 44) field back.blanks (ap (has_byte 44) (sym back.parts) ∙ cut.no_comma);
            no_line_end = lacks_front is_line_end field back.blanks (ap has_line_end (sym back.parts) ∙ none);
            no_blank_in_front = begins is_blank full;
            no_blank_behind = back.full;
          }) refl;
          blank_back = back.blank;
          parts = refl;
        };
        parts = parts ∙ ap (λ (t : List ℕ). blanks ++ t) (cut.parts ∙ ap (λ (t : List ℕ). t ++ tail) back.parts) ∙ simp append_assoc;
      }

  plain_by : (test : Bool) → has_line_end (before_comma bytes) ≡ test → Meets size text (cond test (Err (Quote (line_end_column size bytes))) (Ok (before_blanks (before_comma bytes), behind_comma bytes)))
  plain_by true holds = plain_fault (comma_split bytes) (line_end_split (before_comma bytes) holds)
  plain_by false none = plain_read (comma_split bytes) none (back_split (before_comma bytes))

  plain_meets : Meets size text (plain_field size bytes)
  unfolding plain_field
  plain_meets = plain_by (has_line_end (before_comma bytes)) refl

-- a field in quotes, by what stands behind it without the blanks there
module _ (size : ℕ) (text blanks field after : List ℕ) (blank : AreBlanks blanks) (parts : text ≡ blanks ++ in_quotes field ++ after) (none : has_line_end field ≡ false) (closed : begins_with is_quote after ≡ false) where
  closed_read : (behind : Option (List ℕ)) → HasFront after (tail_of behind) → IsRead text field behind
  closed_read behind front = record {
    spelling = blanks ++ in_quotes field ++ front.blanks;
    spelled = record {
      front = blanks;
      text = in_quotes field;
      back = front.blanks;
      blank_front = blank;
      written = quoted none refl;
      blank_back = front.blank;
      parts = refl;
    };
    parts = parts ∙ ap (λ (t : List ℕ). blanks ++ in_quotes field ++ t) front.parts ∙ sym (append_assoc (blanks ++ in_quotes field) front.blanks (tail_of behind));
  }

  closed_fault : (byte : ℕ) (behind : List ℕ) → is_comma byte ≡ false → HasFront after (byte ∷ behind) → IsMet size text (column_of size (length (byte ∷ behind)))
  closed_fault byte behind other front =
      let whole : text ≡ blanks ++ in_quotes field ++ front.blanks ++ byte ∷ behind = parts ∙ ap (λ (t : List ℕ). blanks ++ in_quotes field ++ t) front.parts ∙ sym (append_assoc (blanks ++ in_quotes field) front.blanks (byte ∷ behind)) in
      record {
        at = length (blanks ++ in_quotes field ++ front.blanks);
        bad = not_ended (record {
          front = blanks;
          field = field;
          back = front.blanks;
          byte = byte;
          behind = behind;
          blank_front = blank;
          no_line_end = none;
          blank_back = front.blank;
          closed = ap (begins_with is_quote) (sym front.parts) ∙ closed;
          no_blank = front.full;
          no_comma = other;
          parts = whole;
          place = refl;
        });
        there = ap (column_of size) (omega (arith, ap length whole, length-append (blanks ++ in_quotes field ++ front.blanks) (byte ∷ behind)));
      }

  closed_by : (test : Bool) (byte : ℕ) (behind : List ℕ) → is_comma byte ≡ test → HasFront after (byte ∷ behind) → Meets size text (cond test (Ok (field, Some behind)) (Err (Quote (column_of size (length (byte ∷ behind))))))
  closed_by true byte behind e front = closed_read (Some behind) (rw (comma_is byte e) at front)
  closed_by false byte behind e front = closed_fault byte behind e front

  closed_meets : (rest : List ℕ) → HasFront after rest → Meets size text (closed_field size field rest)
  unfolding closed_field
  closed_meets [] front = closed_read None front
  closed_meets (byte ∷ behind) front = closed_by (is_comma byte) byte behind refl front

-- a field in quotes, behind its first quote
module _ (size : ℕ) (text blanks inside : List ℕ) (blank : AreBlanks blanks) (parts : text ≡ blanks ++ 34 ∷ inside) where
  quoted_fault : (field after : List ℕ) → inside ≡ doubled field ++ 34 ∷ after → begins_with is_quote after ≡ false → HasLineEnd field → IsMet size text (line_end_column size inside)
  quoted_fault field after cut closed ends =
      let behind = doubled ends.after ++ 34 ∷ after in
      let split : doubled field ≡ doubled ends.before ++ ends.byte ∷ doubled ends.after = ap doubled ends.parts ∙ doubled_append ends.before (ends.byte ∷ ends.after) ∙ ap (λ (t : List ℕ). doubled ends.before ++ t) (doubled_other ends.byte ends.after (line_end_no_quote ends.byte ends.line_end)) in
      let whole : inside ≡ doubled ends.before ++ ends.byte ∷ behind = cut ∙ ap (λ (t : List ℕ). t ++ 34 ∷ after) split ∙ append_assoc (doubled ends.before) (ends.byte ∷ doubled ends.after) (34 ∷ after) in
      let here : line_end_column size inside ≡ column_of size (length inside - length (doubled ends.before)) = rw whole (column_first size (doubled ends.before) behind ends.byte (doubled_whole ends.before ends.no_line_end) ends.line_end) in
      record {
        at = length (blanks ++ 34 ∷ doubled ends.before);
        bad = quoted_line_end (record {
          front = blanks;
          before = ends.before;
          byte = ends.byte;
          after = ends.after;
          behind = after;
          blank_front = blank;
          no_line_end = ends.no_line_end;
          line_end = ends.line_end;
          closed = closed;
          parts = parts ∙ ap (λ (t : List ℕ). blanks ++ 34 ∷ t) (cut ∙ ap (λ (t : List ℕ). doubled t ++ 34 ∷ after) ends.parts) ∙ simp append_assoc;
          place = refl;
        });
        there = here ∙ ap (column_of size) (omega (arith, ap length parts, length-append blanks (34 ∷ inside), length-append blanks (34 ∷ doubled ends.before)));
      }

  quoted_by : (test : Bool) (field after : List ℕ) → has_line_end field ≡ test → inside ≡ doubled field ++ 34 ∷ after → begins_with is_quote after ≡ false → Meets size text (cond test (Err (Quote (line_end_column size inside))) (closed_field size field (behind_blanks after)))
  quoted_by true field after holds cut closed = quoted_fault field after cut closed (line_end_split field holds)
  quoted_by false field after none cut closed = closed_meets size text blanks field after blank (parts ∙ ap (λ (t : List ℕ). blanks ++ 34 ∷ t) cut ∙ simp append_assoc) none closed (behind_blanks after) (front_split after)

  part_meets : (found : Option (List ℕ × List ℕ)) → IsCut inside found → Meets size text (quoted_part size inside found)
  part_meets None cut = record {
    at = length blanks;
    bad = never_closed (record {
      front = blanks;
      inside = cut.0;
      blank_front = blank;
      parts = parts ∙ ap (λ (t : List ℕ). blanks ++ 34 ∷ t) cut.1;
      place = refl;
    });
    there = ap (column_of size) (omega (arith, ap length parts, length-append blanks (34 ∷ inside)));
  }
  part_meets (Some found) cut = quoted_by (has_line_end (found.0)) (found.0) (found.1) refl cut.0 cut.1

  quoted_meets : Meets size text (quoted_field size inside)
  unfolding quoted_field
  quoted_meets = part_meets (quoted_text inside) (quoted_split inside)

full_by : (test : Bool) (size : ℕ) (text : List ℕ) (byte : ℕ) (bytes : List ℕ) → is_quote byte ≡ test → HasFront text (byte ∷ bytes) → Meets size text (cond test (quoted_field size bytes) (plain_field size (byte ∷ bytes)))
full_by true size text byte bytes e front = quoted_meets size text front.blanks bytes front.blank (front.parts ∙ ap (λ (b : ℕ). front.blanks ++ b ∷ bytes) (quote_is byte e))
full_by false size text byte bytes e front = plain_meets size text front.blanks (byte ∷ bytes) front.blank front.parts front.full e

full_meets : (size : ℕ) (text rest : List ℕ) → HasFront text rest → Meets size text (full_field size rest)
unfolding full_field
full_meets size text [] front = plain_meets size text front.blanks [] front.blank front.parts refl refl
full_meets size text (byte ∷ bytes) front = full_by (is_quote byte) size text byte bytes refl front

pub first_meets : (size : ℕ) (text : List ℕ) → Meets size text (first_field size text)
unfolding first_field
first_meets size text = full_meets size text (behind_blanks text) (front_split text)
