-- Digits, and the one decimal spelling of a number.
use Rattle.std.proofs.Common.{◌≡◌, ℕ, zero, suc, ◌<◌, ◌≤◌, List, [], ◌∷◌, length, get_or, decimal, inl, inr, refl, subst, arith}
use Rattle.std.specs.Char.{digit_value}
use Rattle.std.specs.Str.Parse.{AllDigits, IsNumeral, digits_value}
use Rattle.std.proofs.lemmas.Bool.{ne_eqb, cases_lt}
use Rattle.std.proofs.lemmas.Fmt.{decimal_is_IsNumeral, decimal-digits_value, decimal_digit, first_decimal}
use Rattle.std.proofs.lemmas.Str.Parse.{numerals_by_value, tells_digits}
use Rattle.ip_match.proofs.PartLemmas.{Lacks}

pub not_digit_at : (radix : ℕ) (text : List ℕ) (i d : ℕ) → i < length text → radix ≤ digit_value (get_or text i d) → ¬ (AllDigits radix text)
not_digit_at radix [] i d lt bad h = absurd (omega arith)
not_digit_at radix (c ∷ text) zero d lt bad h = omega (arith, h.0)
not_digit_at radix (c ∷ text) (suc i) d lt bad h = not_digit_at radix text i d (omega arith) bad h.1

-- a byte that is no digit is none of the digits
pub Lacks-digits : (radix c : ℕ) (text : List ℕ) → radix ≤ digit_value c → AllDigits radix text → Lacks c text
Lacks-digits radix c [] bad h = tt
Lacks-digits radix c (b ∷ text) bad h =
    (ne_eqb b c (λ e. let same : digit_value b < radix = h.0 in let P : ℕ → Type 0 = λ n. digit_value n < radix in let moved : digit_value c < radix = subst P e same in omega arith), Lacks-digits radix c text bad h.1)

-- a decimal number of several digits does not begin with 0
pub decimal_first : (n : ℕ) → n ≤ 255 → 1 < length (decimal n) → get_or (decimal n) 0 0 ≡ 48 → ⊥
decimal_first n small long zero_first =
    elim (cases_lt n 10) [
      | inl one ↦ let short : length (decimal n) ≡ 1 = rw (decimal_digit n one) refl in omega arith
      | inr more ↦ let first = first_decimal n (omega arith) (omega arith) in omega arith
    ]

pub decimal_digits : (n : ℕ) → n ≤ 255 → IsNumeral 10 (decimal n) × (digits_value 10 (decimal n) ≡ n)
decimal_digits n small = decimal_is_IsNumeral n (omega arith)

-- digits without a leading zero are the decimal number of their value
pub decimal_of_digits : (text : List ℕ) → IsNumeral 10 text → digits_value 10 text ≤ 255 → (get_or text 0 0 ≡ 48 → length text ≡ 1) → decimal (digits_value 10 text) ≡ text
decimal_of_digits text h small first =
    decimal-digits_value (numerals_by_value (AllDigits 10) tells_digits) text h.1 h.0 first (omega arith)

-- the digits of a text that is a decimal number
pub digits_of_decimal : (text : List ℕ) (n : ℕ) → n ≤ 255 → text ≡ decimal n → IsNumeral 10 text × (digits_value 10 text ≡ n)
digits_of_decimal text n small spelled = rw spelled (decimal_digits n small)
