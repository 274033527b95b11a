-- The word of a line, and what stands behind it.
use Rattle.std.proofs.Common.{◌≡◌, ℕ, suc, ◌+◌, ◌<◌, ◌⊎◌, inl, inr, Bool, true, false, cond, not, List, [], ◌∷◌, length, take, drop, get_or, refl, sym, ap, subst, ◌∙◌, arith}
use Rattle.std.proofs.Math.Nat.{eq-or-lt_of_le}
use Rattle.std.specs.List.{prefix_len}
use Rattle.std.specs.Str.{IsCharBoundary}
use Rattle.std.proofs.lemmas.List.Sums.{prefix_len-le-length, prefix_len_stops}
use Rattle.std.proofs.lemmas.Str.{IsCharBoundary-before_ascii, IsCharBoundary-end}
use Rattle.text_parts.proofs.BlankLemmas.{blank_ascii}
use Rattle.text_parts.specs.Blanks.{is_blank}
use Rattle.script_read.specs.Helps.Ends.{is_no_blank}
use Rattle.script_read.specs.Lines.{behind_word, word_of}

one_more : (n : ℕ) → 1 + n ≡ suc n
one_more n = omega arith

pub word_of-take : (line : List ℕ) → word_of line ≡ take (prefix_len is_no_blank line) line
word_of-take [] = refl
word_of-take (byte ∷ bytes) = by (is_blank byte) (word_of-take bytes)
  where
    by : (blank : Bool) → word_of bytes ≡ take (prefix_len is_no_blank bytes) bytes → cond blank [] (byte ∷ word_of bytes) ≡ take (cond (not blank) (1 + prefix_len is_no_blank bytes) 0) (byte ∷ bytes)
    by true rest = refl
    by false rest = ap (λ (t : List ℕ). byte ∷ t) rest ∙ ap (λ (n : ℕ). take n (byte ∷ bytes)) (sym (one_more (prefix_len is_no_blank bytes)))

pub behind_word-drop : (line : List ℕ) → behind_word line ≡ drop (prefix_len is_no_blank line) line
behind_word-drop [] = refl
behind_word-drop (byte ∷ bytes) = by (is_blank byte) (behind_word-drop bytes)
  where
    by : (blank : Bool) → behind_word bytes ≡ drop (prefix_len is_no_blank bytes) bytes → cond blank (byte ∷ bytes) (behind_word bytes) ≡ drop (cond (not blank) (1 + prefix_len is_no_blank bytes) 0) (byte ∷ bytes)
    by true rest = refl
    by false rest = rest ∙ ap (λ (n : ℕ). drop n (byte ∷ bytes)) (sym (one_more (prefix_len is_no_blank bytes)))

-- there the line may be cut
pub word_boundary : (line : List ℕ) → IsCharBoundary line (prefix_len is_no_blank line)
word_boundary line = by (eq-or-lt_of_le (prefix_len-le-length is_no_blank line))
  where
    blank_at : (b : Bool) → not b ≡ false → b ≡ true
    blank_at true e = refl
    blank_at false e = absurd cc

    inside : prefix_len is_no_blank line < length line → IsCharBoundary line (prefix_len is_no_blank line)
    inside within = IsCharBoundary-before_ascii line (prefix_len is_no_blank line) within (blank_ascii (get_or line (prefix_len is_no_blank line) 0) (blank_at (is_blank (get_or line (prefix_len is_no_blank line) 0)) (prefix_len_stops is_no_blank line 0 within)))

    at_end : prefix_len is_no_blank line ≡ length line → IsCharBoundary line (prefix_len is_no_blank line)
    at_end e = subst (IsCharBoundary line) (sym e) (IsCharBoundary-end line)

    by : (prefix_len is_no_blank line ≡ length line) ⊎ (prefix_len is_no_blank line < length line) → IsCharBoundary line (prefix_len is_no_blank line)
    by (inl end) = at_end end
    by (inr within) = inside within
