-- What proofs here and in the crates above cite of bytes, lines, lines that are passed over, and identifiers.
use Rattle.std.proofs.Common.{◌≡◌, ◌≢◌, ℕ, zero, suc, ◌+◌, ◌-◌, ◌<◌, ◌≤◌, ◌||◌, ◌&&◌, Bool, true, false, cond, List, [], ◌∷◌, ◌++◌, length, take, drop, get_or, eqb, Some, None, IsUtf8, refl, sym, ap, ◌∙◌, subst, arith, rules, tests}
use Rattle.std.specs.Prelude.{position}
use Rattle.std.specs.Char.{is_ascii_digit}
use Rattle.std.specs.List.{onto_first, list_any, list_all, position_from, prefix_len, AllByRecursion}
use Rattle.std.specs.Str.{IsCharBoundary}
use Rattle.std.proofs.lemmas.Bool.{and_parts, cond-true, eqb-true, eqb-false, ne_eqb, or_parts}
use Rattle.std.proofs.lemmas.Bool.Decides.{nat_tests}
use Rattle.std.proofs.lemmas.List.{append-nil, append_assoc, get_or-take, length-take, take_all}
use Rattle.std.proofs.lemmas.Iterator.Adapters.{position_from-zero}
use Rattle.std.proofs.lemmas.List.Folds.{list_any-append, list_any_none}
use Rattle.std.proofs.lemmas.List.Quantifiers.{position-Some}
use Rattle.std.proofs.lemmas.List.Sums.{list_all-from_AllPass, prefix_len-le-length, prefix_len_passes}
use Rattle.std.proofs.lemmas.Str.{IsCharBoundary-start, IsCharBoundary-after_ascii, IsUtf8-append, IsUtf8-from_ascii, IsUtf8-nil}
use Rattle.text_parts.specs.Blanks.{is_blank, behind_blanks}
use Rattle.text_parts.specs.Lines.{has_byte, lines_of, with_ends, without_cr}
use Rattle.text_parts.specs.Names.{is_identifier, is_letter, is_word}
use Rattle.text_parts.specs.Numbered.{text_lines}
use Rattle.text_parts.specs.Passed.{is_passed_by}
use Rattle.memchr.specs.Find.{NoneBefore, Nowhere, Passes, is_byte}

-- ---- the first place that passes a test

none_from : {X : Type 0} (p : X → Bool) (xs : List X) (at : ℕ) → position_from p at xs ≡ None → list_any p xs ≡ false
none_from p [] at e = refl
none_from p (x ∷ xs) at e = past (p x) e (none_from p xs (at + 1))
  where
    past : (b : Bool) → cond b (Some at) (position_from p (at + 1) xs) ≡ None → (position_from p (at + 1) xs ≡ None → list_any p xs ≡ false) → (b || list_any p xs) ≡ false
    past true here rest = absurd cc
    past false none rest = rest none

-- where no place passes, no element does
pub position-None : {X : Type 0} (p : X → Bool) (xs : List X) → position p xs ≡ None → list_any p xs ≡ false
position-None p xs e = none_from p xs 0 (sym (position_from-zero p xs) ∙ e)

-- before the first element that passes none does
pub position-none_before : {X : Type 0} (p : X → Bool) (xs : List X) (at : ℕ) → position p xs ≡ Some at → list_any p (take at xs) ≡ false
position-none_before p xs at e =
    list_any_none p (take at xs) (λ k f inside.
    let before : k < at = omega (arith, length-take at xs) in
    rw (get_or-take at xs k f before) ((position-Some p xs at f e).2 k before))

-- what passes a test is no element that fails it
pub passing_is_other : (test : ℕ → Bool) (byte other : ℕ) → test byte ≡ true → test other ≡ false → eqb byte other ≡ false
passing_is_other test byte other is fails =
    ne_eqb byte other (λ e.
    let here : test other ≡ true = ap test (sym e) ∙ is in
    absurd cc)

-- ---- bytes that pass a test, at the front

pub prefix_len-passing : (p : ℕ → Bool) (front rest : List ℕ) → list_all p front ≡ true → prefix_len p (front ++ rest) ≡ length front + prefix_len p rest
prefix_len-passing p [] rest all = omega arith
prefix_len-passing p (b ∷ front) rest all =
    let both = and_parts (p b) (list_all p front) all in
    cond-true (p b) (1 + prefix_len p (front ++ rest)) 0 both.0 ∙ omega (arith, prefix_len-passing p front rest both.1)

pub list_all-prefix : (p : ℕ → Bool) (bytes : List ℕ) → list_all p (take (prefix_len p bytes) bytes) ≡ true
list_all-prefix p bytes =
    list_all-from_AllPass p (take (prefix_len p bytes) bytes) (λ k d inside.
    let before : k < prefix_len p bytes = omega (arith, length-take (prefix_len p bytes) bytes) in
    rw (get_or-take (prefix_len p bytes) bytes k d before) (prefix_len_passes p bytes k d before))

-- ---- where a text may be cut

-- behind a byte of ASCII
pub boundary_behind : (bytes : List ℕ) (n : ℕ) → IsUtf8 bytes → n ≤ length bytes → ((k : ℕ) → n ≡ k + 1 → get_or bytes k 0 < 128) → IsCharBoundary bytes n
boundary_behind bytes zero utf8 within ascii = IsCharBoundary-start bytes utf8
boundary_behind bytes (suc n) utf8 within ascii =
    let e : n + 1 ≡ suc n = omega arith in
    subst (λ (m : ℕ). IsCharBoundary bytes m) e (IsCharBoundary-after_ascii bytes n utf8 (omega arith) (ascii n (sym e)))

-- behind the bytes at the front that pass a test, where these are ASCII
pub boundary-passing : (p : ℕ → Bool) (bytes : List ℕ) → ((b : ℕ) → p b ≡ true → b < 128) → IsUtf8 bytes → IsCharBoundary bytes (prefix_len p bytes)
boundary-passing p bytes ascii utf8 = boundary_behind bytes (prefix_len p bytes) utf8 (prefix_len-le-length p bytes) (λ k e. ascii (get_or bytes k 0) (prefix_len_passes p bytes k 0 (omega arith)))

-- ---- a text, cut at its first such byte

-- a text that lacks the byte at each place
pub lacks_byte : (byte : ℕ) (text : List ℕ) → ((i : ℕ) → i < length text → get_or text i 0 ≢ byte) → has_byte byte text ≡ false
lacks_byte byte [] lacks = refl
lacks_byte byte (b ∷ text) lacks = rw (ne_eqb b byte (lacks 0 (omega arith))) (lacks_byte byte text (λ i within. lacks (suc i) (omega arith)))

-- where it stands nowhere
pub nowhere_lacks : (byte : ℕ) (text bytes : List ℕ) → Nowhere (Passes (is_byte byte) bytes) 0 (length bytes) → bytes ≡ text → has_byte byte text ≡ false
nowhere_lacks byte text bytes nowhere same =
    lacks_byte byte text (subst (λ (t : List ℕ). (i : ℕ) → i < length t → get_or t i 0 ≢ byte) same (λ i within e. nowhere i (omega arith) within (eqb-yes e)))
  where
    eqb-yes : {a b : ℕ} → a ≡ b → eqb a b ≡ true
    eqb-yes e = grind (arith, nat_tests)

-- at a place that passes it stands
pub held_there : (byte : ℕ) (text bytes : List ℕ) (at : ℕ) → NoneBefore (Passes (is_byte byte) bytes) 0 (length bytes) at → Passes (is_byte byte) bytes at → bytes ≡ text → (at < length text) × (get_or text at 0 ≡ byte)
held_there byte text bytes at none passes same =
    (omega (arith, none.high, ap (λ (t : List ℕ). length t) same), ap (λ (t : List ℕ). get_or t at 0) (sym same) ∙ eqb-true (get_or bytes at 0) byte passes)

-- what stands before its first place
pub front_lacks : (byte : ℕ) (text bytes : List ℕ) (at : ℕ) → NoneBefore (Passes (is_byte byte) bytes) 0 (length bytes) at → bytes ≡ text → has_byte byte (take at text) ≡ false
front_lacks byte text bytes at none same =
    lacks_byte byte (take at text) (λ i within e.
    let before : i < at = omega (arith, within, length-take at text) in
    none.before i (omega arith) before (grind (arith, nat_tests, get_or-take at text i 0 before, e, same)))

-- a byte stands where it is put
pub has_byte-here : (byte : ℕ) (front back : List ℕ) → has_byte byte (front ++ byte ∷ back) ≡ true
has_byte-here byte [] back = search (rules, tests)
has_byte-here byte (b ∷ front) back = rw (has_byte-here byte front back) (search (rules, tests))

-- a text is cut at its first such byte in one way
pub cut_once : (byte : ℕ) (front other back rest : List ℕ) → has_byte byte front ≡ false → has_byte byte other ≡ false → front ++ byte ∷ back ≡ other ++ byte ∷ rest → (front ≡ other) × (back ≡ rest)
cut_once byte [] [] back rest none nor e = (refl, cc)
cut_once byte [] (o ∷ other) back rest none nor e = absurd (eqb-false o byte (or_parts _ _ nor).0 cc)
cut_once byte (f ∷ front) [] back rest none nor e = absurd (eqb-false f byte (or_parts _ _ none).0 cc)
cut_once byte (f ∷ front) (o ∷ other) back rest none nor e =
    let heads : f ≡ o = cc in
    let tails : front ++ byte ∷ back ≡ other ++ byte ∷ rest = cc in
    let cut : (front ≡ other) × (back ≡ rest) = cut_once byte front other back rest (or_parts _ _ none).1 (or_parts _ _ nor).1 tails in
    (ap (λ (h : ℕ). h ∷ front) heads ∙ ap (λ (t : List ℕ). o ∷ t) cut.0, cut.1)

-- ---- lines

-- a byte that is no LF makes the first line longer
lines_of-byte : (test more : Bool) (byte : ℕ) (line : List ℕ) (lines rest : List (List ℕ)) → (more ≡ false → lines ≡ line ∷ rest) → (test || more) ≡ false → cond test ([] ∷ lines) (onto_first byte lines) ≡ (byte ∷ line) ∷ rest
lines_of-byte true more byte line lines rest later none = absurd cc
lines_of-byte false more byte line lines rest later none = rw (later none) refl

lines_of-end : (test : Bool) (byte : ℕ) → (test || false) ≡ false → cond test ([] ∷ []) ((byte ∷ []) ∷ []) ≡ (byte ∷ []) ∷ []
lines_of-end true byte none = absurd cc
lines_of-end false byte none = refl

-- a line with its LF
pub lines_of-cut : (line rest : List ℕ) → has_byte 10 line ≡ false → lines_of (line ++ 10 ∷ rest) ≡ line ∷ lines_of rest
unfolding lines_of
lines_of-cut [] rest none = refl
lines_of-cut (byte ∷ line) rest none = lines_of-byte (eqb byte 10) (has_byte 10 line) byte line (lines_of (line ++ 10 ∷ rest)) (lines_of rest) (lines_of-cut line rest) none

-- a last line without LF
pub lines_of-last : (line : List ℕ) → 0 < length line → has_byte 10 line ≡ false → lines_of line ≡ line ∷ []
unfolding lines_of
lines_of-last [] some none = absurd (omega arith)
lines_of-last (byte ∷ []) some none = lines_of-end (eqb byte 10) byte none
lines_of-last (byte ∷ next ∷ line) some none = lines_of-byte (eqb byte 10) (has_byte 10 (next ∷ line)) byte (next ∷ line) (lines_of (next ∷ line)) [] (lines_of-last (next ∷ line) (omega arith)) none

-- lines with their LF, before more text
pub lines_of-with_ends : (texts : List (List ℕ)) (rest : List ℕ) → AllByRecursion (λ (text : List ℕ). has_byte 10 text ≡ false) texts → lines_of (with_ends texts ++ rest) ≡ texts ++ lines_of rest
lines_of-with_ends [] rest lines = refl
lines_of-with_ends (text ∷ texts) rest lines =
    simp append_assoc (lines_of-cut text (with_ends texts ++ rest) lines.0 ∙ ap (λ (back : List (List ℕ)). text ∷ back) (lines_of-with_ends texts rest lines.1))

-- a text whose lines are UTF-8 is UTF-8
utf8_at : (front bytes : List ℕ) (byte : ℕ) (feed : Bool) → eqb byte 10 ≡ feed → has_byte 10 front ≡ false → AllByRecursion IsUtf8 (lines_of (front ++ byte ∷ bytes))
    → (AllByRecursion IsUtf8 (lines_of bytes) → IsUtf8 bytes) → (has_byte 10 (front ++ byte ∷ []) ≡ false → AllByRecursion IsUtf8 (lines_of ((front ++ byte ∷ []) ++ bytes)) → IsUtf8 ((front ++ byte ∷ []) ++ bytes)) → IsUtf8 (front ++ byte ∷ bytes)
utf8_at front bytes byte true e none all rest more =
    let same : byte ≡ 10 = eqb-true byte 10 e in
    let parts = subst (AllByRecursion IsUtf8) (ap (λ (b : ℕ). lines_of (front ++ b ∷ bytes)) same ∙ lines_of-cut front bytes none) all in
    let ended : IsUtf8 (10 ∷ bytes) = IsUtf8-append (10 ∷ []) bytes (IsUtf8-from_ascii (10 ∷ []) (search (rules, tests))) (rest parts.1) in
    subst (λ (b : ℕ). IsUtf8 (front ++ b ∷ bytes)) (sym same) (IsUtf8-append front (10 ∷ bytes) parts.0 ended)
utf8_at front bytes byte false e none all rest more =
    let whole : (front ++ byte ∷ []) ++ bytes ≡ front ++ byte ∷ bytes = append_assoc front (byte ∷ []) bytes in
    let still : has_byte 10 (front ++ byte ∷ []) ≡ false = list_any-append (λ b. eqb b 10) front (byte ∷ []) ∙ rw (none, e) refl in
    subst IsUtf8 whole (more still (subst (λ (t : List ℕ). AllByRecursion IsUtf8 (lines_of t)) (sym whole) all))

utf8_from : (front bytes : List ℕ) → has_byte 10 front ≡ false → AllByRecursion IsUtf8 (lines_of (front ++ bytes)) → IsUtf8 (front ++ bytes)
utf8_from [] [] none all = IsUtf8-nil
utf8_from (first ∷ front) [] none all =
    let whole : (first ∷ front) ++ [] ≡ first ∷ front = append-nil (first ∷ front) in
    subst IsUtf8 (sym whole) (subst (AllByRecursion IsUtf8) (ap lines_of whole ∙ lines_of-last (first ∷ front) (omega arith) none) all).0
utf8_from front (byte ∷ bytes) none all = utf8_at front bytes byte (eqb byte 10) refl none all (utf8_from [] bytes refl) (utf8_from (front ++ byte ∷ []) bytes)

pub IsUtf8-from_lines : (text : List ℕ) → AllByRecursion IsUtf8 (lines_of text) → IsUtf8 text
IsUtf8-from_lines text all = utf8_from [] text refl all

-- the CR at the end of a line
pub without_cr-cr : (front : List ℕ) → without_cr (front ++ 13 ∷ []) ≡ front
without_cr-cr [] = refl
without_cr-cr (first ∷ []) = refl
without_cr-cr (first ∷ next ∷ front) = ap (λ (t : List ℕ). first ∷ t) (without_cr-cr (next ∷ front))

last_is : (byte : ℕ) (test : Bool) → eqb byte 13 ≡ test → ((front : List ℕ) → ¬ (byte ∷ [] ≡ front ++ 13 ∷ [])) → cond test [] (byte ∷ []) ≡ byte ∷ []
last_is byte true e none = absurd (none [] (ap (λ (b : ℕ). b ∷ []) (eqb-true byte 13 e)))
last_is byte false e none = refl

pub without_cr-other : (text : List ℕ) → ((front : List ℕ) → ¬ (text ≡ front ++ 13 ∷ [])) → without_cr text ≡ text
without_cr-other [] none = refl
without_cr-other (byte ∷ []) none = last_is byte (eqb byte 13) refl none
without_cr-other (byte ∷ next ∷ bytes) none = ap (λ (t : List ℕ). byte ∷ t) (without_cr-other (next ∷ bytes) (λ front e. none (byte ∷ front) (ap (λ (t : List ℕ). byte ∷ t) e)))

-- the lines cut at LF or CR LF, at the first of them
pub text_lines-none : (text : List ℕ) → lines_of text ≡ [] → text_lines text ≡ []
unfolding text_lines
text_lines-none text e = rw e refl

pub text_lines-first : (text rest line : List ℕ) → lines_of text ≡ line ∷ lines_of rest → text_lines text ≡ without_cr line ∷ text_lines rest
unfolding text_lines
text_lines-first text rest line e = rw e refl

-- ---- lines that are passed over

-- the text is empty, or its first byte passes
abbrev pub begins_passed : (ℕ → Bool) → List ℕ → Bool
begins_passed test [] = true
begins_passed test (byte ∷ bytes) = test byte

passed_at : (test : ℕ → Bool) (byte : ℕ) (bytes : List ℕ) (blank : Bool) → is_passed_by test bytes ≡ begins_passed test (behind_blanks bytes) → cond blank (is_passed_by test bytes) (test byte) ≡ begins_passed test (cond blank (behind_blanks bytes) (byte ∷ bytes))
passed_at test byte bytes true rest = rest
passed_at test byte bytes false rest = refl

pub is_passed_by-behind : (test : ℕ → Bool) (line : List ℕ) → is_passed_by test line ≡ begins_passed test (behind_blanks line)
is_passed_by-behind test [] = refl
is_passed_by-behind test (byte ∷ bytes) = passed_at test byte bytes (is_blank byte) (is_passed_by-behind test bytes)

begins-none : (test : ℕ → Bool) (text : List ℕ) → length text < 1 → begins_passed test text ≡ true
begins-none test [] e = refl
begins-none test (byte ∷ bytes) e = absurd (omega arith)

begins-some : (test : ℕ → Bool) (text : List ℕ) → 0 < length text → begins_passed test text ≡ test (get_or text 0 0)
begins-some test [] e = absurd (omega arith)
begins-some test (byte ∷ bytes) e = refl

-- by what stands behind the blanks
pub is_passed_by-none : (test : ℕ → Bool) (line text : List ℕ) → text ≡ behind_blanks line → length text < 1 → true ≡ is_passed_by test line
is_passed_by-none test line text e none = sym (is_passed_by-behind test line ∙ ap (begins_passed test) (sym e) ∙ begins-none test text none)

pub is_passed_by-some : (test : ℕ → Bool) (line text : List ℕ) → text ≡ behind_blanks line → 0 < length text → is_passed_by test line ≡ test (get_or text 0 0)
is_passed_by-some test line text e some = is_passed_by-behind test line ∙ ap (begins_passed test) (sym e) ∙ begins-some test text some

-- ---- identifiers

-- a letter is a byte of a word
pub word_from_letter : (b : ℕ) → is_letter b ≡ true → is_word b ≡ true
word_from_letter b letter = grind (arith, nat_tests)

pub digit_is_no_letter : (b : ℕ) → is_ascii_digit b ≡ true → is_letter b ≡ false
digit_is_no_letter b digit = grind (arith, nat_tests)

-- such bytes are ASCII
pub word_ascii : (b : ℕ) → is_word b ≡ true → b < 128
word_ascii b h = grind (arith, nat_tests)

pub words_of : (name : List ℕ) → is_identifier name ≡ true → list_all is_word name ≡ true
words_of [] is = absurd cc
words_of (b ∷ name) is =
    let both = and_parts (is_letter b) (list_all is_word name) is in
    rw (word_from_letter b both.0) both.1

pub is_identifier-front : (name : List ℕ) (more : Bool) → 0 < length name → is_letter (get_or name 0 0) ≡ true → more ≡ list_all is_word (take (length name - 1) (drop 1 name)) → more ≡ is_identifier name
is_identifier-front [] more some letter words = absurd (omega arith)
is_identifier-front (first ∷ others) more some letter words =
    let rest : take (length (first ∷ others) - 1) others ≡ others = take_all _ others (omega arith) in
    words ∙ ap (λ (bytes : List ℕ). list_all is_word bytes) rest ∙ sym (ap (λ (b : Bool). b && list_all is_word others) letter)
