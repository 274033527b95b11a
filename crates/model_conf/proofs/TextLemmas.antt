-- The values of a text are parts of one line, without blanks at their ends.
use Rattle.std.proofs.Common.{◌≡◌, ℕ, ◌+◌, Bool, true, false, cond, List, [], ◌∷◌, ◌++◌, map, eqb, Some, codes, refl, sym, ap, ◌∙◌, subst}
use Rattle.std.specs.Prelude.{find, option_map}
use Rattle.std.specs.List.{list_all, onto_first, AllByRecursion}
use Rattle.std.specs.Str.{bytes_eq}
use Rattle.std.proofs.lemmas.Bool.{and_parts, or_parts}
use Rattle.std.proofs.lemmas.List.Folds.{list_any-append}
use Rattle.text_parts.specs.Blanks.{is_blank, before_blanks, behind_blanks, trimmed}
use Rattle.text_parts.specs.Lines.{has_byte, lines_of, without_cr}
use Rattle.text_parts.proofs.BlankLemmas.{back}
use Rattle.model_conf.specs.Comments.{IsUncommented, ended, comment, plain, quoted, unclosed}
use Rattle.model_conf.specs.Helps.Outlines.{HasTextOfMatcher}
use Rattle.model_conf.specs.Kept.{IsPartOfLine}
use Rattle.text_parts.specs.Numbered.{Line, numbered, text_lines}
use Rattle.model_conf.specs.Logical as l
use Rattle.model_conf.specs.Relations.{value_of}
use Rattle.model_conf.specs.Sections.{Entry, entries_of}
use Rattle.model_conf.specs.Statements.{LineContent, Says, as_header, as_pair, as_nothing, Statement, AllSay, no_more, one_more, HasStatements}

-- it holds no LF
abbrev IsLine : List ℕ → Type 0
IsLine text = has_byte 10 text ≡ false

line_parts : (front back : List ℕ) → IsLine (front ++ back) → IsLine front × IsLine back
line_parts front back none = or_parts (has_byte 10 front) (has_byte 10 back) (sym (list_any-append (λ b. eqb b 10) front back) ∙ none)

line_onto : (front back : List ℕ) → IsLine front → IsLine back → IsLine (front ++ back)
line_onto front back one two = list_any-append (λ b. eqb b 10) front back ∙ rw (one, two) refl

line_more : (byte : ℕ) (text : List ℕ) → eqb byte 10 ≡ false → IsLine text → IsLine (byte ∷ text)
line_more byte text other none = rw (other, none) refl

-- ---- blanks

line_behind : (text : List ℕ) → IsLine text → IsLine (behind_blanks text)
line_behind [] none = none
line_behind (byte ∷ bytes) none = by_test (is_blank byte) (line_behind bytes (or_parts (eqb byte 10) (has_byte 10 bytes) none).1)
  where
    by_test : (test : Bool) → IsLine (behind_blanks bytes) → IsLine (cond test (behind_blanks bytes) (byte ∷ bytes))
    by_test true rest = rest
    by_test false rest = none

line_trimmed : (text : List ℕ) → IsLine text → IsLine (trimmed text)
line_trimmed text none =
    let b = back (behind_blanks text) in
    (line_parts (trimmed text) b.blanks (subst IsLine b.whole (line_behind text none))).0

-- a trimmed text has no blanks at its ends
again_by : (byte : ℕ) (bytes : List ℕ) (all : Bool) → list_all is_blank (byte ∷ bytes) ≡ all → (all ≡ false → list_all is_blank (byte ∷ before_blanks bytes) ≡ false) → before_blanks (before_blanks bytes) ≡ before_blanks bytes
    → before_blanks (cond all [] (byte ∷ before_blanks bytes)) ≡ cond all [] (byte ∷ before_blanks bytes)
again_by byte bytes true e none rest = refl
again_by byte bytes false e none rest = rw (none refl) (ap (λ (t : List ℕ). byte ∷ t) rest)

no_blank_left : (bytes : List ℕ) (all : Bool) → list_all is_blank bytes ≡ all → list_all is_blank (before_blanks bytes) ≡ true → all ≡ true
no_blank_left [] true e left = refl
no_blank_left [] false e left = sym e
no_blank_left (byte ∷ bytes) true e left = refl
no_blank_left (byte ∷ bytes) false e left =
    let shown : list_all is_blank (byte ∷ before_blanks bytes) ≡ true = rw e at left in
    let parts = and_parts (is_blank byte) (list_all is_blank (before_blanks bytes)) shown in
    let rest = no_blank_left bytes (list_all is_blank bytes) refl parts.1 in
    sym e ∙ rw (parts.0, rest) refl

still : (byte : ℕ) (bytes : List ℕ) (now : Bool) → list_all is_blank (byte ∷ bytes) ≡ false → list_all is_blank (byte ∷ before_blanks bytes) ≡ now → now ≡ false
still byte bytes true none left =
    let parts = and_parts (is_blank byte) (list_all is_blank (before_blanks bytes)) left in
    let rest = no_blank_left bytes (list_all is_blank bytes) refl parts.1 in
    sym (rw (parts.0, rest) refl) ∙ none
still byte bytes false none left = refl

pub before_again : (text : List ℕ) → before_blanks (before_blanks text) ≡ before_blanks text
before_again [] = refl
before_again (byte ∷ bytes) = again_by byte bytes (list_all is_blank (byte ∷ bytes)) refl (λ none. still byte bytes (list_all is_blank (byte ∷ before_blanks bytes)) none refl) (before_again bytes)

-- a text that begins with no blank
bare_by : (byte : ℕ) (bytes : List ℕ) → is_blank byte ≡ false → behind_blanks (before_blanks (byte ∷ bytes)) ≡ before_blanks (byte ∷ bytes)
bare_by byte bytes e = rw e (rw e refl)

pub behind_first : (text : List ℕ) → behind_blanks (before_blanks (behind_blanks text)) ≡ before_blanks (behind_blanks text)
behind_first [] = refl
behind_first (byte ∷ bytes) = by_test byte bytes (is_blank byte) refl (behind_first bytes)
  where
    by_test : (byte : ℕ) (bytes : List ℕ) (test : Bool) → is_blank byte ≡ test → behind_blanks (before_blanks (behind_blanks bytes)) ≡ before_blanks (behind_blanks bytes)
        → behind_blanks (before_blanks (cond test (behind_blanks bytes) (byte ∷ bytes))) ≡ before_blanks (cond test (behind_blanks bytes) (byte ∷ bytes))
    by_test byte bytes true e rest = rest
    by_test byte bytes false e rest = bare_by byte bytes e

pub trimmed-trimmed : (text : List ℕ) → trimmed (trimmed text) ≡ trimmed text
trimmed-trimmed text = ap before_blanks (behind_first text) ∙ before_again (behind_blanks text)

-- ---- lines

line_without_cr : (text : List ℕ) → IsLine text → IsLine (without_cr text)
line_without_cr [] none = none
line_without_cr (byte ∷ []) none = by_test (eqb byte 13)
  where
    by_test : (test : Bool) → IsLine (cond test [] (byte ∷ []))
    by_test true = refl
    by_test false = none
line_without_cr (byte ∷ next ∷ bytes) none =
    let parts = or_parts (eqb byte 10) (has_byte 10 (next ∷ bytes)) none in
    line_more byte (without_cr (next ∷ bytes)) parts.0 (line_without_cr (next ∷ bytes) parts.1)

abbrev AreWhole : List (List ℕ) → Type 0
AreWhole lines = AllByRecursion IsLine lines

lines_whole : (text : List ℕ) → AreWhole (lines_of text)
unfolding lines_of
lines_whole [] = tt
lines_whole (byte ∷ bytes) = by_test (eqb byte 10) refl (lines_of bytes) (lines_whole bytes)
  where
    by_test : (test : Bool) → eqb byte 10 ≡ test → (lines : List (List ℕ)) → AreWhole lines → AreWhole (cond test ([] ∷ lines) (onto_first byte lines))
    by_test true e lines all = (refl, all)
    by_test false e [] all = (line_more byte [] e refl, tt)
    by_test false e (first ∷ lines) all = (line_more byte first e all.0, all.1)

without_cr_whole : (lines : List (List ℕ)) → AreWhole lines → AreWhole (map without_cr lines)
without_cr_whole [] all = tt
without_cr_whole (first ∷ lines) all = (line_without_cr first all.0, without_cr_whole lines all.1)

abbrev AllWhole : List Line → Type 0
AllWhole lines = AllByRecursion (λ (x : Line). IsLine x.text) lines

numbered_whole : (number : ℕ) (texts : List (List ℕ)) → AreWhole texts → AllWhole (numbered number texts)
numbered_whole number [] all = tt
numbered_whole number (text ∷ texts) all = (all.0, numbered_whole (number + 1) texts all.1)

text_whole : (bytes : List ℕ) → AllWhole (numbered 1 (text_lines bytes))
unfolding text_lines
text_whole bytes = numbered_whole 1 (map without_cr (lines_of bytes)) (without_cr_whole (lines_of bytes) (lines_whole bytes))

-- ---- logical lines

open_whole : (text front : List ℕ) → l.EndsOpen text front → IsLine text → IsLine front
open_whole text front open_ is = (line_parts front (92 ∷ open_.blanks) (subst IsLine open_.spelled is)).0

whole_line : {text : List ℕ} {lines : List Line} {whole : List ℕ} {left : List Line} → l.IsWhole text lines whole left → IsLine text → AllWhole lines → IsLine whole × AllWhole left
whole_line (l.ended none) is all = (is, all)
whole_line (l.continued {text} {next} front open_ more) is all = whole_line more (line_onto front (32 ∷ next.text) (open_whole text front open_ is) all.0) all.1
whole_line (l.dropped {text} front open_ more) is all = whole_line more (open_whole text front open_ is) all

logical_whole : {lines logical : List Line} → l.AreLogical lines logical → AllWhole lines → AllWhole logical
logical_whole l.no_line all = tt
logical_whole (l.passed e more) all = logical_whole more all.1
logical_whole (l.begun e joined more) all =
    let parts = whole_line joined all.0 all.1 in
    (parts.0, logical_whole more parts.1)

-- ---- values

left_line : {text left : List ℕ} → IsUncommented text left → IsLine text → IsLine left
left_line ended none = none
left_line comment none = refl
left_line (plain {byte} {bytes} {left} differs sign rest) none =
    let parts = or_parts (eqb byte 10) (has_byte 10 bytes) none in
    line_more byte left parts.0 (left_line rest parts.1)
left_line (quoted {quote} inside bytes left {text} {whole} is sign rest spelled whole_is) none =
    let parts = or_parts (eqb quote 10) (has_byte 10 text) none in
    let inner = line_parts inside (quote ∷ bytes) (subst IsLine spelled parts.1) in
    let behind = left_line rest (or_parts (eqb quote 10) (has_byte 10 bytes) inner.1).1 in
    line_more quote whole parts.0 (subst IsLine (sym whole_is) (line_onto inside (quote ∷ left) inner.0 (line_more quote left parts.0 behind)))
left_line (unclosed {quote} {inside} {whole} is sign whole_is) none =
    let parts = or_parts (eqb quote 10) (has_byte 10 inside) none in
    line_more quote whole parts.0 (subst IsLine (sym whole_is) parts.1)

abbrev AreValues : List Entry → Type 0
AreValues entries = AllByRecursion (λ (e : Entry). IsPartOfLine e.value) entries

said_values : (text : List ℕ) (said : LineContent) (number : ℕ) (others : List Statement) → Says text said → IsLine text → AreValues (entries_of others) → AreValues (entries_of (record { number = number; said = said } ∷ others))
said_values text said number others (as_header name e) is all = all
said_values text said number others (as_pair key value none first e) is all =
    let behind = line_parts key (61 ∷ value) (subst IsLine e is) in
    (record { whole_line = line_trimmed value behind.1; trimmed_is = trimmed-trimmed value }, all)
said_values text said number others (as_nothing none no_) is all = all

values_whole : {logical : List Line} {statements : List Statement} → AllSay logical statements → AllWhole logical → AreValues (entries_of statements)
values_whole no_more all = tt
values_whole (one_more {first} {said = said} {statements = statements} says more) all =
    said_values (trimmed says.left) said first.number statements says.says (line_trimmed says.left (left_line says.uncommented all.0)) (values_whole more all.1)

found_by : (e : Entry) (entries : List Entry) (key text : List ℕ) (test : Bool) → IsPartOfLine e.value → (value_of entries key ≡ Some text → IsPartOfLine text) → option_map (λ (x : Entry). x.value) (cond test (Some e) (find (λ (x : Entry). bytes_eq x.key key) entries)) ≡ Some text → IsPartOfLine text
found_by e entries key text true is rest found =
    let same : e.value ≡ text = cc in
    subst IsPartOfLine same is
found_by e entries key text false is rest found = rest found

found_whole : (entries : List Entry) (key text : List ℕ) → AreValues entries → value_of entries key ≡ Some text → IsPartOfLine text
found_whole [] key text all found = absurd cc
found_whole (e ∷ entries) key text all found = found_by e entries key text (bytes_eq e.key key) all.0 (found_whole entries key text all.1) found

pub HasTextOfMatcher-read : (bytes : List ℕ) (statements : List Statement) → HasStatements bytes statements → HasTextOfMatcher (entries_of statements)
HasTextOfMatcher-read bytes statements has text found =
    found_whole (entries_of statements) (codes "m") text (values_whole has.say (logical_whole has.lines_are (text_whole bytes))) found
