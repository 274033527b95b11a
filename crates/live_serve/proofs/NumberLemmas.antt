-- A line that was made under the number 0, and has another in its place.
use Rattle.std.proofs.Common.{◌≡◌, ℕ, ◌<◌, List, ◌++◌, drop, length, refl, sym, ap, subst, ◌∙◌, append_assoc, arith}
use Rattle.std.specs.Fmt.{digits}
use Rattle.std.specs.Prelude.{codes, decimal, slice_index}
use Rattle.answer_lines.specs.LineText.{numbered}

-- what stands behind the 0 and its blank
front_0 : (told : List ℕ) → drop 2 (numbered 0 told) ≡ told ++ codes "\n"
unfolding digits
front_0 told = refl

long_0 : (told : List ℕ) → 1 < length (numbered 0 told)
unfolding digits
long_0 told = omega arith

blank_0 : (told : List ℕ) → slice_index (numbered 0 told) 1 < 128
unfolding digits
blank_0 told = omega arith

-- of a text that is such a line
pub plain_long : (text : List ℕ) (number : ℕ) (told : List ℕ) → number ≡ 0 → text ≡ numbered number told → 1 < length text
plain_long text number told none is = subst (λ (t : List ℕ). 1 < length t) (sym (is ∙ ap (λ (n : ℕ). numbered n told) none)) (long_0 told)

pub plain_ascii : (text : List ℕ) (number : ℕ) (told : List ℕ) → number ≡ 0 → text ≡ numbered number told → slice_index text 1 < 128
plain_ascii text number told none is = subst (λ (t : List ℕ). slice_index t 1 < 128) (sym (is ∙ ap (λ (n : ℕ). numbered n told) none)) (blank_0 told)

regrouped : (a b c d : List ℕ) → (a ++ b) ++ (c ++ d) ≡ a ++ ((b ++ c) ++ d)
regrouped a b c d = simp append_assoc

-- behind another number it is that line
pub told_again : (old text : List ℕ) (front number : ℕ) (told : List ℕ) → front ≡ 0 → text ≡ numbered front told → (old ++ (decimal number ++ codes " ")) ++ drop 2 text ≡ old ++ numbered number told
told_again old text front number told none is =
    ap (λ (t : List ℕ). (old ++ (decimal number ++ codes " ")) ++ drop 2 t) (is ∙ ap (λ (n : ℕ). numbered n told) none)
    ∙ ap (λ (t : List ℕ). (old ++ (decimal number ++ codes " ")) ++ t) (front_0 told) ∙ regrouped old (decimal number ++ codes " ") told (codes "\n")
