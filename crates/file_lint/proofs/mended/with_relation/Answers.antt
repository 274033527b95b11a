use Rattle.std.proofs.Common.{ℕ, List, true, ap, ◌∙◌}
use Rattle.file_lint.specs.Mended.{if_short, number_of, with_more, with_relation}
use Rattle.file_lint.proofs.mended.with_relation.Goals as goal

pub returns-in_default : goal.returns-in_default
returns-in_default c = ap (λ lines. with_relation c.args.name.now (number_of lines) c.args.text.now) c.in_default.ensures.found

pub returns : goal.returns
returns c =
    let text = c.args.text.now in
    c.if_short.ensures ∙ ap (if_short true) (c.in_ok-made.ensures ∙ ap (λ (more : List ℕ). with_more more text) (c.as_str.ensures.value ∙ c.in_ok-more.ensures))
    ∙ ap (λ lines. with_relation c.args.name.now (number_of lines) text) c.in-None.ensures.found
