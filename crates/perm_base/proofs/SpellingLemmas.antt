-- Texts in the parts that the fields of a line are spelled in: blanks, commas, line ends.
use Rattle.std.proofs.Common.{◌≡◌, ℕ, ◌-◌, ◌<◌, ◌||◌, not, Bool, true, false, cond, List, [], ◌∷◌, ◌++◌, length, eqb, reverse, Option, Some, None, refl, sym, ap, ◌∙◌, arith, rules, tests}
use Rattle.std.proofs.lemmas.Bool.{and_parts, or_parts}
use Rattle.std.specs.List.{list_all, list_any, prefix_len}
use Rattle.std.specs.Prelude.{position}
use Rattle.std.proofs.lemmas.Bool.Decides.{nat_tests}
use Rattle.std.proofs.lemmas.List.{length-append, reverse-append, reverse-reverse}
use Rattle.std.proofs.lemmas.List.Folds.{list_all-append, list_any-append}
use Rattle.text_parts.proofs.CallerLemmas.{passing_is_other}
use Rattle.text_parts.proofs.BlankLemmas.{before_blanks-reverse}
use Rattle.text_parts.specs.Blanks.{AreBlanks, before_blanks, behind_blanks, is_blank}
use Rattle.perm_base.specs.LineEnds.{has_line_end, is_line_end}
use Rattle.text_parts.specs.Lines.{has_byte}
use Rattle.perm_base.specs.FieldLine.{begins_with, ends_with, is_comma, is_quote}
use Rattle.perm_base.specs.FieldSteps.{before_comma, behind_comma, column_of, line_end_column}
use Rattle.perm_base.proofs.QuotedLemmas.{line_end_column-at}

-- what a text begins with
pub begins_front : (test : ℕ → Bool) (front back : List ℕ) → begins_with test (front ++ back) ≡ false → begins_with test front ≡ false
begins_front test [] back e = refl
begins_front test (byte ∷ front) back e = e

pub begins_both : (test : ℕ → Bool) (front back : List ℕ) → begins_with test front ≡ false → begins_with test back ≡ false → begins_with test (front ++ back) ≡ false
begins_both test [] back one other = other
begins_both test (byte ∷ front) back one other = one

-- bytes of two kinds
pub quote_is : (byte : ℕ) → is_quote byte ≡ true → byte ≡ 34
quote_is byte e = grind (arith, nat_tests)

pub comma_is : (byte : ℕ) → is_comma byte ≡ true → byte ≡ 44
comma_is byte e = grind (arith, nat_tests)

pub line_end_no_quote : (byte : ℕ) → is_line_end byte ≡ true → is_quote byte ≡ false
line_end_no_quote byte ends = passing_is_other is_line_end byte 34 ends refl

pub line_end_no_comma : (byte : ℕ) → is_line_end byte ≡ true → is_comma byte ≡ false
line_end_no_comma byte ends = passing_is_other is_line_end byte 44 ends refl

pub line_end_no_blank : (byte : ℕ) → is_line_end byte ≡ true → is_blank byte ≡ false
line_end_no_blank byte ends = rw (passing_is_other is_line_end byte 32 ends refl, passing_is_other is_line_end byte 9 ends refl) refl

pub blanks_no_quote : (blanks : List ℕ) → AreBlanks blanks → begins_with is_quote blanks ≡ false
blanks_no_quote [] all = refl
blanks_no_quote (byte ∷ blanks) all = passing_is_other is_blank byte 34 (and_parts (is_blank byte) (list_all is_blank blanks) all).0 refl

-- a text that holds no such byte, in its parts
pub lacks_front : (test : ℕ → Bool) (front back : List ℕ) → list_any test (front ++ back) ≡ false → list_any test front ≡ false
lacks_front test front back e = (or_parts (list_any test front) (list_any test back) (sym (list_any-append test front back) ∙ e)).0

-- a text without the blanks at its front
pub record HasFront (text rest : List ℕ) : Type 0 where
  pub blanks : List ℕ
  pub blank : AreBlanks blanks
  pub full : begins_with is_blank rest ≡ false
  pub parts : text ≡ blanks ++ rest

front_more : (test : Bool) (byte : ℕ) (text rest : List ℕ) → is_blank byte ≡ test → HasFront text rest → HasFront (byte ∷ text) (cond test rest (byte ∷ text))
front_more true byte text rest e front = record {
  blanks = byte ∷ front.blanks;
  blank = rw e front.blank;
  full = front.full;
  parts = ap (λ (t : List ℕ). byte ∷ t) front.parts;
}
front_more false byte text rest e front = record {
  blanks = [];
  blank = refl;
  full = e;
  parts = refl;
}

pub front_split : (text : List ℕ) → HasFront text (behind_blanks text)
front_split [] = record {
  blanks = [];
  blank = refl;
  full = refl;
  parts = refl;
}
front_split (byte ∷ text) = front_more (is_blank byte) byte text (behind_blanks text) refl (front_split text)

pub blank_reverse : (blanks : List ℕ) → AreBlanks blanks → AreBlanks (reverse blanks)
blank_reverse [] all = refl
blank_reverse (byte ∷ blanks) all =
    let here = and_parts (is_blank byte) (list_all is_blank blanks) all in
    ap (list_all is_blank) (reverse-append (byte ∷ []) blanks) ∙ list_all-append is_blank (reverse blanks) (byte ∷ []) ∙ rw (blank_reverse blanks here.1, here.0) refl

-- a text without the blanks at its back
pub record HasBack (text rest : List ℕ) : Type 0 where
  pub blanks : List ℕ
  pub blank : AreBlanks blanks
  pub full : ends_with is_blank rest ≡ false
  pub parts : text ≡ rest ++ blanks

pub back_split : (text : List ℕ) → HasBack text (before_blanks text)
back_split text =
    let front = front_split (reverse text) in
    let rest : before_blanks text ≡ reverse (behind_blanks (reverse text)) = before_blanks-reverse text in
    record {
      blanks = reverse front.blanks;
      blank = blank_reverse front.blanks front.blank;
      full = ap (λ (t : List ℕ). begins_with is_blank (reverse t)) rest ∙ ap (begins_with is_blank) (reverse-reverse (behind_blanks (reverse text))) ∙ front.full;
      parts = sym (reverse-reverse text) ∙ ap reverse front.parts ∙ reverse-append front.blanks (behind_blanks (reverse text)) ∙ ap (λ (t : List ℕ). t ++ reverse front.blanks) (sym rest);
    }

-- what stands behind a field: nothing, or a comma and more
abbrev pub tail_of : Option (List ℕ) → List ℕ
tail_of None = []
tail_of (Some behind) = 44 ∷ behind

-- a text is cut at its first comma
pub record HasComma (text before : List ℕ) (behind : Option (List ℕ)) : Type 0 where
  pub no_comma : has_byte 44 before ≡ false
  pub parts : text ≡ before ++ tail_of behind

comma_more : (test : Bool) (byte : ℕ) (text before : List ℕ) (behind : Option (List ℕ)) → eqb byte 44 ≡ test → HasComma text before behind → HasComma (byte ∷ text) (cond test [] (byte ∷ before)) (cond test (Some text) behind)
comma_more true byte text before behind e cut = record { no_comma = refl; parts = ap (λ (b : ℕ). b ∷ text) (comma_is byte e) }
comma_more false byte text before behind e cut = record { no_comma = rw e cut.no_comma; parts = ap (λ (t : List ℕ). byte ∷ t) cut.parts }

pub comma_split : (text : List ℕ) → HasComma text (before_comma text) (behind_comma text)
unfolding before_comma behind_comma
comma_split [] = record { no_comma = refl; parts = refl }
comma_split (byte ∷ text) = comma_more (eqb byte 44) byte text (before_comma text) (behind_comma text) refl (comma_split text)

-- a text is cut at its first CR or LF
pub record HasLineEnd (text : List ℕ) : Type 0 where
  pub before : List ℕ
  pub byte : ℕ
  pub after : List ℕ
  pub no_line_end : has_line_end before ≡ false
  pub line_end : is_line_end byte ≡ true
  pub parts : text ≡ before ++ byte ∷ after

line_end_more : (test : Bool) (byte : ℕ) (text : List ℕ) → is_line_end byte ≡ test → (test || has_line_end text) ≡ true → (has_line_end text ≡ true → HasLineEnd text) → HasLineEnd (byte ∷ text)
line_end_more true byte text e holds rest = record {
  before = [];
  byte = byte;
  after = text;
  no_line_end = refl;
  line_end = e;
  parts = refl;
}
line_end_more false byte text e holds rest =
    let cut = rest holds in
    record {
      before = byte ∷ cut.before;
      byte = cut.byte;
      after = cut.after;
      no_line_end = rw e cut.no_line_end;
      line_end = cut.line_end;
      parts = ap (λ (t : List ℕ). byte ∷ t) cut.parts;
    }

pub line_end_split : (text : List ℕ) → has_line_end text ≡ true → HasLineEnd text
line_end_split [] holds = absurd cc
line_end_split (byte ∷ text) holds = line_end_more (is_line_end byte) byte text refl holds (line_end_split text)

first_place : (before after : List ℕ) (byte : ℕ) → has_line_end before ≡ false → is_line_end byte ≡ true → prefix_len (λ (b : ℕ). not (is_line_end b)) (before ++ byte ∷ after) ≡ length before
first_place [] after byte none here = rw here refl
first_place (b ∷ before) after byte none here =
    let rest = or_parts (is_line_end b) (has_line_end before) none in
    let next = first_place before after byte rest.1 here in
    rw (rest.0, next) (omega arith)

-- the place of the first CR or LF
pub position_first : (before after : List ℕ) (byte : ℕ) → has_line_end before ≡ false → is_line_end byte ≡ true → position is_line_end (before ++ byte ∷ after) ≡ Some (length before)
position_first before after byte none here =
    let within : length before < length (before ++ byte ∷ after) = omega (arith, length-append before (byte ∷ after)) in
    rw (first_place before after byte none here) (search (rules, tests, within))

pub column_first : (size : ℕ) (before after : List ℕ) (byte : ℕ) → has_line_end before ≡ false → is_line_end byte ≡ true → line_end_column size (before ++ byte ∷ after) ≡ column_of size (length (before ++ byte ∷ after) - length before)
column_first size before after byte none here = line_end_column-at size (length before) (before ++ byte ∷ after) (position_first before after byte none here)
