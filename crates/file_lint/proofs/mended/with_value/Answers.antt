use Rattle.std.proofs.Common.{ℕ, List, ap, ◌∙◌}
use Rattle.file_lint.specs.Mended.{if_short, number_of, with_line, with_value}
use Rattle.file_lint.specs.declared.mended.Extent.TheVariants.{Continued}
use Rattle.file_lint.proofs.mended.with_value.Goals as goal

pub returns-in_default : goal.returns-in_default
returns-in_default c = ap (λ lines. with_value c.args.key.now c.args.value.now c.args.guessed (number_of lines) c.args.text.now) c.in_default.ensures.found

pub returns : goal.returns
returns c =
    let text = c.args.text.now in
    c.if_short.ensures ∙ ap (if_short c.args.guessed) (c.in_ok-made.ensures ∙ ap (λ (by : List ℕ). with_line Continued c.in-Some.number by text) (c.as_str.ensures.value ∙ c.in_ok-by.ensures))
    ∙ ap (λ lines. with_value c.args.key.now c.args.value.now c.args.guessed (number_of lines) text) c.in-Some.ensures.found
