-- Fields without quotes, which are looked through once: for the comma that ends one, and for the CR or LF that makes it bad.
use Rattle.std.proofs.Common.{◌≡◌, ℕ, zero, suc, ◌+◌, ◌-◌, ◌<◌, ◌≤◌, ◌||◌, Bool, true, false, not, cond, ltb, length, List, [], ◌∷◌, ◌++◌, eqb, get_or, take, drop, take-append-drop, Option, Some, None, refl, sym, ap, ◌∙◌, arith}
use Rattle.std.specs.List.{list_any, position_from, prefix_len}
use Rattle.std.specs.Simd.Lanes.{chunk}
use Rattle.std.specs.Prelude.{option_map, position}
use Rattle.std.specs.Str.{IsCharBoundary, IsUtf8}
use Rattle.std.proofs.lemmas.Bool.{or_parts}
use Rattle.std.proofs.lemmas.Bool.Decides.{nat_tests}
use Rattle.std.proofs.lemmas.List.{drop_more, length-take-le, take_rest}
use Rattle.std.proofs.lemmas.List.Sums.{prefix_len-le-length}
use Rattle.std.proofs.lemmas.Simd.{length-chunk}
use Rattle.std.proofs.lemmas.Iterator.Adapters.{position_from-zero}
use Rattle.std.proofs.lemmas.List.Quantifiers.{position-Some}
use Rattle.std.proofs.lemmas.Str.{IsCharBoundary-after_ascii, IsCharBoundary-before_ascii}
use Rattle.text_parts.specs.Lines.{has_byte}
use Rattle.text_parts.proofs.CallerLemmas.{position-None, position-none_before}
use Rattle.perm_base.specs.LineEnds.{has_line_end, is_line_end}
use Rattle.perm_base.specs.FieldSteps.{before_comma, behind_comma, ends_plain, is_mark}
use Rattle.perm_base.proofs.QuotedLemmas.{before_comma-cut, before_comma-none}

-- such bytes are ASCII
plain_ascii : (byte : ℕ) → ends_plain byte ≡ true → byte < 128
plain_ascii byte is = grind (arith, nat_tests)

-- two tests of which one holds, or none
pub or_left : (a b : Bool) → a ≡ true → (a || b) ≡ true
or_left true b is = refl
or_left false b is = absurd cc

pub or_right : (a b : Bool) → b ≡ true → (a || b) ≡ true
or_right true b is = refl
or_right false b is = is

or_none : (a b : Bool) → a ≡ false → b ≡ false → (a || b) ≡ false
or_none true b first second = absurd cc
or_none false b first second = second

or_second : (a b : Bool) → (a || b) ≡ true → a ≡ false → b ≡ true
or_second true b either none = absurd cc
or_second false b either none = either

-- before the first of them stands neither a comma nor a CR or LF
plain_front : (text : List ℕ) → list_any ends_plain text ≡ false → (has_byte 44 text ≡ false) × (has_line_end text ≡ false)
plain_front [] none = (refl, refl)
plain_front (byte ∷ text) none =
    let here = or_parts (ends_plain byte) (list_any ends_plain text) none in
    let both = or_parts (eqb byte 44) (is_line_end byte) here.0 in
    let rest = plain_front text here.1 in
    (or_none (eqb byte 44) (has_byte 44 text) both.0 rest.0, or_none (is_line_end byte) (has_line_end text) both.1 rest.1)

-- there the text may be cut
pub plain_boundary : (text : List ℕ) (at : ℕ) → position ends_plain text ≡ Some at → IsCharBoundary text at
plain_boundary text at place =
    let there = position-Some ends_plain text at 0 place in
    IsCharBoundary-before_ascii text at there.0 (plain_ascii (get_or text at 0) there.1)

pub plain_behind : (text : List ℕ) (at : ℕ) → IsUtf8 text → position ends_plain text ≡ Some at → IsCharBoundary text (at + 1)
plain_behind text at utf8 place =
    let there = position-Some ends_plain text at 0 place in
    IsCharBoundary-after_ascii text at utf8 there.0 (plain_ascii (get_or text at 0) there.1)

pub plain_place : (text : List ℕ) (at : ℕ) → position ends_plain text ≡ Some at → at < length text
plain_place text at place = (position-Some ends_plain text at 0 place).0

-- a text without any is one field to its end
pub plain_whole : (text : List ℕ) → position ends_plain text ≡ None → (before_comma text ≡ text) × ((behind_comma text ≡ None) × (has_line_end text ≡ false))
plain_whole text place =
    let front = plain_front text (position-None ends_plain text place) in
    let parts = before_comma-none text front.0 in
    (parts.0, (parts.1, front.1))

-- above a comma stands no such byte
none_above : (byte : ℕ) → ltb byte 45 ≡ false → ends_plain byte ≡ false
none_above byte above = grind (arith, nat_tests)

-- so many of them stand before the first that is a comma or below
abbrev above_len : List ℕ → ℕ
above_len text = prefix_len (λ (byte : ℕ). not (ltb byte 45)) text

above_more : (byte : ℕ) (text : List ℕ) (low : Bool) → ltb byte 45 ≡ low → list_any ends_plain (take (above_len text) text) ≡ false → list_any ends_plain (take (cond (not low) (1 + above_len text) 0) (byte ∷ text)) ≡ false
above_more byte text true is rest = refl
above_more byte text false is rest =
    let more : 1 + above_len text ≡ suc (above_len text) = omega arith in
    ap (λ (k : ℕ). list_any ends_plain (take k (byte ∷ text))) more ∙ or_none (ends_plain byte) (list_any ends_plain (take (above_len text) text)) (none_above byte is) rest

front_above : (text : List ℕ) → list_any ends_plain (take (above_len text) text) ≡ false
front_above [] = refl
front_above (byte ∷ text) = above_more byte text (ltb byte 45) refl (front_above text)

-- a front of a front
pub take_take : {X : Type 0} (n m : ℕ) (xs : List X) → n ≤ m → take n (take m xs) ≡ take n xs
take_take zero m xs within = refl
take_take (suc n) zero xs within = absurd (omega (arith, within))
take_take (suc n) (suc m) [] within = refl
take_take {X = X} (suc n) (suc m) (x ∷ xs) within = ap (λ (l : List X). x ∷ l) (take_take n m xs (omega (arith, within)))

-- the same of a group in a text
pub group_above : (at n : ℕ) (text : List ℕ) (above : ℕ) → at + n ≤ length text → above ≡ above_len (chunk at n text) → (above ≤ n) × (list_any ends_plain (chunk at above text) ≡ false)
group_above at n text above room is =
    let group = chunk at n text in
    let few : above ≤ n = omega (arith, is, prefix_len-le-length (λ (byte : ℕ). not (ltb byte 45)) group, length-chunk at n text room) in
    (few, ap (list_any ends_plain) (sym (take_take above n (drop at text) few)) ∙ ap (λ (k : ℕ). list_any ends_plain (take k group)) is ∙ front_above group)

-- places counted from a later byte
shifted : {X : Type 0} (p : X → Bool) (xs : List X) (at n : ℕ) → position_from p (n + at) xs ≡ option_map (λ (k : ℕ). n + k) (position_from p at xs)
shifted p [] at n = refl
shifted p (x ∷ xs) at n = step (p x) (position_from p (n + at + 1) xs) (position_from p (at + 1) xs) (ap (λ (k : ℕ). position_from p k xs) (omega arith) ∙ shifted p xs (at + 1) n)
  where
    step : (b : Bool) (more less : Option ℕ) → more ≡ option_map (λ (k : ℕ). n + k) less → cond b (Some (n + at)) more ≡ option_map (λ (k : ℕ). n + k) (cond b (Some at) less)
    step true more less e = refl
    step false more less e = e

passed : {X : Type 0} (p : X → Bool) (front xs : List X) (at : ℕ) → list_any p front ≡ false → position_from p at (front ++ xs) ≡ position_from p (at + length front) xs
passed p [] xs at none = ap (λ (k : ℕ). position_from p k xs) (omega arith)
passed p (x ∷ front) xs at none =
    let here = or_parts (p x) (list_any p front) none in
    rw (here.0) (passed p front xs (at + 1) here.1 ∙ ap (λ (k : ℕ). position_from p k xs) (omega arith))

position_behind : {X : Type 0} (p : X → Bool) (xs : List X) (at : ℕ) → at ≤ length xs → list_any p (take at xs) ≡ false → position p xs ≡ option_map (λ (k : ℕ). at + k) (position p (drop at xs))
position_behind p xs at within none =
    let size : 0 + length (take at xs) ≡ at + 0 = omega (arith, length-take-le at xs within) in
    position_from-zero p xs
    ∙ ap (position_from p 0) (sym (take-append-drop at xs))
    ∙ passed p (take at xs) (drop at xs) 0 none
    ∙ ap (λ (k : ℕ). position_from p k (drop at xs)) size
    ∙ shifted p (drop at xs) 0 at
    ∙ ap (option_map (λ (k : ℕ). at + k)) (sym (position_from-zero p (drop at xs)))

-- the first of them, looked for behind a front that has none
pub found_behind : (text bytes : List ℕ) (front : ℕ) (r : Option ℕ) → bytes ≡ text → front ≤ length bytes → list_any ends_plain (take front bytes) ≡ false
    → r ≡ position ends_plain (take (length bytes - front) (drop front bytes)) → option_map (λ (k : ℕ). front + k) r ≡ position ends_plain text
found_behind text bytes front r same within none found =
    ap (option_map (λ (k : ℕ). front + k)) (found ∙ ap (position ends_plain) (take_rest bytes front)) ∙ sym (position_behind ends_plain bytes front within none) ∙ ap (position ends_plain) same

-- where the first is a comma, the field ends there
pub plain_comma : (text bytes before rest : List ℕ) (at : ℕ) → position ends_plain text ≡ Some at → bytes ≡ text → before ≡ take at text → rest ≡ drop (at + 1) text → get_or bytes at 0 ≡ 44 → (before_comma text ≡ before) × ((behind_comma text ≡ Some rest) × (has_line_end before ≡ false))
plain_comma text bytes before rest at place same front back comma =
    let none : list_any ends_plain before ≡ false = ap (list_any ends_plain) front ∙ position-none_before ends_plain text at place in
    let both = plain_front before none in
    let from : drop at text ≡ 44 ∷ rest = drop_more text at 0 (plain_place text at place) ∙ ap (λ (b : ℕ). b ∷ drop (at + 1) text) (ap (λ (t : List ℕ). get_or t at 0) (sym same) ∙ comma) ∙ ap (λ (t : List ℕ). 44 ∷ t) (sym back) in
    let whole : text ≡ before ++ 44 ∷ rest = sym (take-append-drop at text) ∙ ap (λ (t : List ℕ). t ++ drop at text) (sym front) ∙ ap (λ (t : List ℕ). before ++ t) from in
    let parts = before_comma-cut text before rest (record { parts = whole; first = both.0 }) in
    (parts.0, (parts.1, both.1))

-- a CR or LF before any comma stands before the first comma
stays_before : (front rest : List ℕ) (byte : ℕ) → has_byte 44 front ≡ false → eqb byte 44 ≡ false → is_line_end byte ≡ true → has_line_end (before_comma (front ++ byte ∷ rest)) ≡ true
unfolding before_comma
stays_before [] rest byte none other is = rw other (or_left (is_line_end byte) (has_line_end (before_comma rest)) is)
stays_before (first ∷ front) rest byte none other is =
    let here = or_parts (eqb first 44) (has_byte 44 front) none in
    rw (here.0) (or_right (is_line_end first) (has_line_end (before_comma (front ++ byte ∷ rest))) (stays_before front rest byte here.1 other is))

-- where the first is no comma, it makes the field bad
pub plain_bad : (text : List ℕ) (at : ℕ) → position ends_plain text ≡ Some at → eqb (get_or text at 0) 44 ≡ false → has_line_end (before_comma text) ≡ true
plain_bad text at place no_comma =
    let there = position-Some ends_plain text at 0 place in
    let byte = get_or text at 0 in
    let rest = drop (at + 1) text in
    let from : drop at text ≡ byte ∷ rest = drop_more text at 0 there.0 in
    let line_end : is_line_end byte ≡ true = or_second (eqb byte 44) (is_line_end byte) there.1 no_comma in
    let front = plain_front (take at text) (position-none_before ends_plain text at place) in
    let whole : text ≡ take at text ++ byte ∷ rest = sym (take-append-drop at text) ∙ ap (λ (t : List ℕ). take at text ++ t) from in
    ap (λ (t : List ℕ). has_line_end (before_comma t)) whole ∙ stays_before (take at text) rest byte front.0 no_comma line_end

-- a comma or a quote is looked for once
pub either_mark : (text : List ℕ) → list_any is_mark text ≡ (has_byte 44 text || has_byte 34 text)
either_mark [] = refl
either_mark (byte ∷ text) = ap (λ (b : Bool). (eqb byte 44 || eqb byte 34) || b) (either_mark text) ∙ apart (eqb byte 44) (eqb byte 34) (has_byte 44 text) (has_byte 34 text)
  where
    apart : (a b c d : Bool) → ((a || b) || (c || d)) ≡ ((a || c) || (b || d))
    apart true b c d = refl
    apart false true true d = refl
    apart false true false d = refl
    apart false false c d = refl
