-- Numbers of one to nine digits.
use Rattle.std.proofs.Common.{◌≡◌, ℕ, ◌<◌, ◌≤◌, true, List, length, Result, refl, sym, ap, ◌∙◌, arith, rules}
use Rattle.std.specs.Char.{is_ascii_digit}
use Rattle.std.specs.List.{list_all}
use Rattle.std.specs.Result.{result_ok}
use Rattle.std.specs.Str.Parse.{ParsesUnsigned, digits_value}
use Rattle.std.proofs.lemmas.Bool.{le-leb, lt-ltb}
use Rattle.std.proofs.lemmas.Str.Parse.{IsNumeralModel, digits_value_short, numerals_by_value, parse_gives}
use Rattle.script_read.specs.Items.{whole_number_of}

own : IsNumeralModel (λ ds. list_all is_ascii_digit ds ≡ true) (digits_value 10)
own = numerals_by_value _ (search rules)

pub number_parsed : {E : Type 0} (text : List ℕ) (r : Result ℕ E) → ParsesUnsigned 32 10 text r → 0 < length text → length text ≤ 9 → list_all is_ascii_digit text ≡ true → result_ok r ≡ whole_number_of text
number_parsed text r parses some few digits =
    let small = digits_value_short own text 9 digits few in
    let is = parse_gives own 32 text r parses digits some (omega (arith, small)) in
    ap result_ok is ∙ sym (rw (lt-ltb 0 (length text) some, le-leb (length text) 9 few, digits) refl)
