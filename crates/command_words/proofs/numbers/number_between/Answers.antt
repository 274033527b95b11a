use Rattle.std.proofs.Common.{◌≡◌, ◌<◌, true, length, None, Some, ◌∙◌, arith, rules}
use Rattle.std.specs.Char.{is_ascii_digit}
use Rattle.std.specs.List.{list_all}
use Rattle.std.specs.Str.Parse.{digits_value}
use Rattle.command_words.proofs.NumberLemmas.{digits_parsed}
use Rattle.command_words.proofs.numbers.number_between.Goals as goal

pub returns-in_err-number-clause-value : goal.returns-in_err-number-clause-value
returns-in_err-number-clause-value c =
    let digits : list_all is_ascii_digit c.args.text.now ≡ true = search rules in
    let some : 0 < length c.args.text.now = search rules in
    let parsed = digits_parsed c.args.text.now c.parse.result c.parse.ensures.value.0 some (omega arith) digits in
    let none : c.ok.result ≡ None = c.in_err-number.was in
    let found : c.ok.result ≡ Some (digits_value 10 c.args.text.now) = c.ok.ensures.value ∙ parsed in
    absurd cc
