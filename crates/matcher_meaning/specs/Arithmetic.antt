-- Whole numbers that have to fit 64 bits with a sign.
use Rattle.std.specs.Prelude.{ℕ, ◌&&◌, ℤ, pos, negsuc, Bool, if◌then◌else◌, Ok, int_le, int_div}
use Rattle.std.specs.Ordering.{int_eq}
use Rattle.effect_fold.specs.declared.fault.Cause.TheVariants.{Kind, Overflow, ZeroDivisor}
use Rattle.perm_value.specs.Datum.{Datum}
use Rattle.perm_value.specs.Datum as datum
use Rattle.matcher_meaning.specs.Answers.{Evaluation, fails}

-- the least and the greatest number
abbrev pub least : ℤ
least = negsuc 9223372036854775807

abbrev pub greatest : ℤ
greatest = pos 9223372036854775807

-- the number lies between them
abbrev pub is_in_range : ℤ → Bool
is_in_range n = int_le least n && int_le n greatest

-- the number, where it is in range
abbrev pub fitted : ℕ → ℤ → Evaluation
fitted at n = if is_in_range n then Ok (datum.whole n) else fails Overflow at

-- what a division gives: no number by zero, and none where the quotient does not fit, as of the least number by -1
abbrev pub divided : ℕ → ℤ → ℤ → ℤ → Evaluation
divided at n by given = if int_eq by (pos 0) then fails ZeroDivisor at else if is_in_range (int_div n by) then Ok (datum.whole given) else fails Overflow at

-- what two whole numbers give; anything else is of another kind
abbrev pub of_wholes : ℕ → (ℤ → ℤ → Evaluation) → Datum → Datum → Evaluation
of_wholes at give (datum.whole n) (datum.whole m) = give n m
of_wholes at give _ _ = fails Kind at
