-- What proofs here and in the crates above cite of blanks.
use Rattle.std.proofs.Common.{◌≡◌, ℕ, suc, ◌+◌, ◌-◌, ◌<◌, ◌≤◌, ◌&&◌, Bool, true, false, cond, List, [], ◌∷◌, ◌++◌, length, take, drop, drop-cons, get_or, add-one, reverse, IsUtf8, refl, sym, ap, ◌∙◌, arith}
use Rattle.std.specs.List.{list_all, prefix_len}
use Rattle.std.proofs.lemmas.Bool.{and_parts}
use Rattle.std.proofs.lemmas.Bool.Decides.{nat_tests}
use Rattle.std.proofs.lemmas.Str.{IsCharBoundary-after_ascii, IsCharBoundary-before_ascii}
use Rattle.std.specs.Str.{IsCharBoundary}
use Rattle.std.proofs.lemmas.List.{append_assoc, append-nil, reverse-append, reverse-reverse, take_more}
use Rattle.text_parts.specs.Blanks.{AreBlanks, is_blank, behind_blanks, before_blanks}

-- blanks are ASCII
pub blank_ascii : (b : ℕ) → is_blank b ≡ true → b < 128
blank_ascii b h = grind (arith, nat_tests)

-- ---- in front

pub behind_blanks-blank : (byte : ℕ) (bytes : List ℕ) → is_blank byte ≡ true → behind_blanks (byte ∷ bytes) ≡ behind_blanks bytes
behind_blanks-blank byte bytes e = rw e refl

pub behind_blanks-other : (byte : ℕ) (bytes : List ℕ) → is_blank byte ≡ false → behind_blanks (byte ∷ bytes) ≡ byte ∷ bytes
behind_blanks-other byte bytes e = rw e refl

-- blanks before a text are dropped
pub behind_blanks-blanks : (blanks text : List ℕ) → AreBlanks blanks → behind_blanks (blanks ++ text) ≡ behind_blanks text
behind_blanks-blanks [] text all = refl
behind_blanks-blanks (byte ∷ blanks) text all =
    let both = and_parts (is_blank byte) (list_all is_blank blanks) all in
    behind_blanks-blank byte (blanks ++ text) both.0 ∙ behind_blanks-blanks blanks text both.1

dropped : (blank : Bool) (byte : ℕ) (bytes : List ℕ) → behind_blanks bytes ≡ drop (prefix_len is_blank bytes) bytes → cond blank (behind_blanks bytes) (byte ∷ bytes) ≡ drop (cond blank (1 + prefix_len is_blank bytes) 0) (byte ∷ bytes)
dropped true byte bytes rest =
    let more : suc (prefix_len is_blank bytes) ≡ 1 + prefix_len is_blank bytes = omega arith in
    rest ∙ ap (λ (k : ℕ). drop k (byte ∷ bytes)) more
dropped false byte bytes rest = refl

-- they are the bytes at the front that are blanks
pub behind_blanks-drop : (text : List ℕ) → behind_blanks text ≡ drop (prefix_len is_blank text) text
behind_blanks-drop [] = refl
behind_blanks-drop (byte ∷ bytes) = dropped (is_blank byte) byte bytes (behind_blanks-drop bytes)

behind_more : (text : List ℕ) (at : ℕ) → at < length text → is_blank (get_or text at 0) ≡ true → behind_blanks (drop (at + 1) text) ≡ behind_blanks (drop at text)
behind_more text at within blank = rw (add-one, drop-cons text at 0 within, blank) refl

-- one blank more in front
pub behind_step : (text : List ℕ) (at : ℕ) (whole : List ℕ) → IsUtf8 text → at < length text → is_blank (get_or text at 0) ≡ true → behind_blanks (drop at text) ≡ whole → IsCharBoundary text (at + 1) × (behind_blanks (drop (at + 1) text) ≡ whole)
behind_step text at whole utf8 within blank same = (IsCharBoundary-after_ascii text at utf8 within (blank_ascii _ blank), behind_more text at within blank ∙ same)

-- ---- at the end

all_push : (bytes : List ℕ) (byte : ℕ) → list_all is_blank (bytes ++ byte ∷ []) ≡ (list_all is_blank bytes && is_blank byte)
all_push [] byte = elim (is_blank byte) as (λ b. (b && true) ≡ b) [ true ↦ refl | false ↦ refl ]
all_push (first ∷ bytes) byte = rw (all_push bytes byte) (elim (is_blank first) as (λ b. (b && (list_all is_blank bytes && is_blank byte)) ≡ ((b && list_all is_blank bytes) && is_blank byte)) [ true ↦ refl | false ↦ refl ])

pub before_blanks-push : (bytes : List ℕ) (byte : ℕ) → is_blank byte ≡ true → before_blanks (bytes ++ byte ∷ []) ≡ before_blanks bytes
before_blanks-push [] byte e = rw e refl
before_blanks-push (first ∷ bytes) byte e = rw (before_blanks-push bytes byte e, all_push bytes byte, e) (elim (is_blank first) as (λ b. cond (b && (list_all is_blank bytes && true)) [] (first ∷ before_blanks bytes) ≡ cond (b && list_all is_blank bytes) [] (first ∷ before_blanks bytes)) [ true ↦ elim (list_all is_blank bytes) as (λ b. cond (b && true) [] (first ∷ before_blanks bytes) ≡ cond b [] (first ∷ before_blanks bytes)) [ true ↦ refl | false ↦ refl ] | false ↦ refl ])

pub before_blanks-other : (bytes : List ℕ) (byte : ℕ) → is_blank byte ≡ false → before_blanks (bytes ++ byte ∷ []) ≡ bytes ++ byte ∷ []
before_blanks-other [] byte e = rw e refl
before_blanks-other (first ∷ bytes) byte e = rw (before_blanks-other bytes byte e, all_push bytes byte, e) (elim (is_blank first) as (λ b. cond (b && (list_all is_blank bytes && false)) [] (first ∷ (bytes ++ byte ∷ [])) ≡ first ∷ (bytes ++ byte ∷ [])) [ true ↦ elim (list_all is_blank bytes) as (λ b. cond (b && false) [] (first ∷ (bytes ++ byte ∷ [])) ≡ first ∷ (bytes ++ byte ∷ [])) [ true ↦ refl | false ↦ refl ] | false ↦ refl ])

pub before_blanks-blanks : (bytes blanks : List ℕ) → AreBlanks blanks → before_blanks (bytes ++ blanks) ≡ before_blanks bytes
before_blanks-blanks bytes [] blank = ap before_blanks (append-nil bytes)
before_blanks-blanks bytes (b ∷ blanks) blank =
    let parts = and_parts (is_blank b) (list_all is_blank blanks) blank in
    ap before_blanks (sym (append_assoc bytes (b ∷ []) blanks)) ∙ before_blanks-blanks (bytes ++ b ∷ []) blanks parts.1 ∙ before_blanks-push bytes b parts.0

reversed_at : (blank : Bool) (byte : ℕ) (text : List ℕ) → is_blank byte ≡ blank → before_blanks (reverse text) ≡ reverse (behind_blanks text) → before_blanks (reverse (byte ∷ text)) ≡ reverse (cond blank (behind_blanks text) (byte ∷ text))
reversed_at true byte text e rest = ap before_blanks (reverse-append (byte ∷ []) text) ∙ before_blanks-push (reverse text) byte e ∙ rest
reversed_at false byte text e rest = ap before_blanks (reverse-append (byte ∷ []) text) ∙ before_blanks-other (reverse text) byte e ∙ sym (reverse-append (byte ∷ []) text)

reversed : (text : List ℕ) → before_blanks (reverse text) ≡ reverse (behind_blanks text)
reversed [] = refl
reversed (byte ∷ text) = reversed_at (is_blank byte) byte text refl (reversed text)

-- the end of a text is the front of what it is backwards
pub before_blanks-reverse : (text : List ℕ) → before_blanks text ≡ reverse (behind_blanks (reverse text))
before_blanks-reverse text = ap before_blanks (sym (reverse-reverse text)) ∙ reversed (reverse text)

-- what was dropped at the end
pub record Back (text : List ℕ) : Type 0 where
  pub blanks : List ℕ
  pub blank : AreBlanks blanks
  pub whole : text ≡ before_blanks text ++ blanks

back_of : (first : ℕ) (bytes : List ℕ) (all : Bool) → list_all is_blank (first ∷ bytes) ≡ all → Back bytes → Back (first ∷ bytes)
back_of first bytes true e rest = record { blanks = first ∷ bytes; blank = e; whole = rw e refl }
back_of first bytes false e rest = record { blanks = rest.blanks; blank = rest.blank; whole = rw e (ap (λ (t : List ℕ). first ∷ t) rest.whole) }

pub back : (text : List ℕ) → Back text
back [] = record { blanks = []; blank = refl; whole = refl }
back (first ∷ bytes) = back_of first bytes (list_all is_blank (first ∷ bytes)) refl (back bytes)

-- one byte less
last_of : (text : List ℕ) (end : ℕ) → 0 < end → end ≤ length text → take end text ≡ take (end - 1) text ++ get_or text (end - 1) 0 ∷ []
last_of text end some within =
    let inside : end - 1 < length text = omega arith in
    ap (λ (n : ℕ). take n text) (omega arith) ∙ take_more text (end - 1) 0 inside

-- one blank less at the end
pub before_step : (text : List ℕ) (end : ℕ) (whole : List ℕ) → 0 < end → end ≤ length text → is_blank (get_or text (end - 1) 0) ≡ true → before_blanks (take end text) ≡ whole → IsCharBoundary text (end - 1) × (before_blanks (take (end - 1) text) ≡ whole)
before_step text end whole some within blank same = (
  IsCharBoundary-before_ascii text (end - 1) (omega arith) (blank_ascii _ blank),
  sym (ap before_blanks (last_of text end some within) ∙ before_blanks-push (take (end - 1) text) _ blank) ∙ same,
)

pub before_stop : (text : List ℕ) (end : ℕ) → 0 < end → end ≤ length text → is_blank (get_or text (end - 1) 0) ≡ false → before_blanks (take end text) ≡ take end text
before_stop text end some within e =
    let whole = last_of text end some within in
    ap before_blanks whole ∙ before_blanks-other (take (end - 1) text) _ e ∙ sym whole

pub before_none : (text : List ℕ) (end : ℕ) → end ≡ 0 → before_blanks (take end text) ≡ take end text
before_none text end e = rw e refl
