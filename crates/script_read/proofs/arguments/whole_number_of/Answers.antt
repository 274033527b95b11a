use Rattle.std.proofs.Common.{◌≡◌, ◌<◌, true, length, ◌∙◌, arith, rules}
use Rattle.std.specs.Char.{is_ascii_digit}
use Rattle.std.specs.List.{list_all}
use Rattle.script_read.proofs.NumberLemmas.{number_parsed}
use Rattle.script_read.proofs.arguments.whole_number_of.Goals as goal

pub returns : goal.returns
returns c =
    let digits : list_all is_ascii_digit c.args.text.now ≡ true = search rules in
    let some : 0 < length c.args.text.now = search rules in
    c.ok.ensures.value ∙ number_parsed c.args.text.now c.parse.result c.parse.ensures.value.0 some (omega (arith, c.if-text-gt9.false)) digits
