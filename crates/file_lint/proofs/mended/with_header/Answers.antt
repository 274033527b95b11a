use Rattle.std.proofs.Common.{ℕ, List, ap, ◌∙◌}
use Rattle.file_lint.specs.Mended.{with_line}
use Rattle.file_lint.specs.declared.mended.Extent.TheVariants.{Alone}
use Rattle.file_lint.proofs.mended.with_header.Goals as goal

pub returns : goal.returns
returns c = c.in_ok-made.ensures ∙ ap (λ (by : List ℕ). with_line Alone c.args.number by c.args.text.now) (c.as_str.ensures.value ∙ c.in_ok-by.ensures)
