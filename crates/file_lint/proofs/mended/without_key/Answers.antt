use Rattle.std.proofs.Common.{◌≡◌, ℕ, [], false, ap, ◌∙◌, rules}
use Rattle.file_lint.specs.Mended.{if_short, with_line}
use Rattle.file_lint.specs.declared.mended.Extent.TheVariants.{Continued}
use Rattle.file_lint.proofs.mended.without_key.Goals as goal

pub returns : goal.returns
returns c =
    let same : c.from-number.result ≡ c.args.at = search rules in
    c.if_short.ensures ∙ ap (if_short false) c.in_ok-made.ensures ∙ ap (λ (n : ℕ). if_short false (with_line Continued n [] c.args.text.now)) same
