use Rattle.std.proofs.Common.{◌≡◌, ℕ, ◌<◌, pos, ℤ, true, length, Result, Ok, Err, SomeIff, rules}
use Rattle.std.proofs.lemmas.Str.Parse.{IsNumeralModel, numerals_by_value, parse_signed_digits}
use Rattle.std.specs.Char.{is_ascii_digit}
use Rattle.std.specs.List.{list_all}
use Rattle.std.specs.Result.{result_ok, OkIff}
use Rattle.std.specs.Str.Parse.{digits_value}
use Rattle.matcher_read.specs.Matcher.{first_wide}
use Rattle.matcher_read.proofs.number.number_by.Goals as goal
use mir.Syntax.{w64}

own : IsNumeralModel (λ ds. list_all is_ascii_digit ds ≡ true) (digits_value 10)
own = numerals_by_value _ (search rules)

in_words : {E : Type 0} (r : Result ℤ E) (n size : ℕ) → OkIff r ((0 < size) × (n < first_wide)) (pos n) → 0 < size → SomeIff (result_ok r) (n < first_wide) (pos n)
in_words (Ok x) n size h some = (h.0.1, h.1)
in_words (Err e) n size h some = λ small. h (some, small)

pub returns : goal.returns
returns c =
    let bs = c.args.digits.now in
    rw c.ok.ensures.value (in_words c.parse.result (digits_value 10 bs) (length bs) (parse_signed_digits own w64 bs c.parse.result c.parse.ensures.value.0 c.requires.digits) c.requires.some)
