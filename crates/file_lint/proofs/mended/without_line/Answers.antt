use Rattle.std.proofs.Common.{◌≡◌, ℕ, false, ap, ◌∙◌, rules}
use Rattle.file_lint.specs.Mended.{if_short, with_left, without_line, without_mark}
use Rattle.file_lint.specs.Places.{file_lines, line_at}
use Rattle.file_lint.proofs.mended.without_line.Goals as goal

pub returns : goal.returns
returns c =
    let text = c.args.text.now in
    let same : c.from-number.result ≡ c.args.at = search rules in
    c.if_short.ensures ∙ ap (if_short false) (c.in_ok-made.ensures ∙ ap (with_left c.from-number.result text) (c.without_mark-left.ensures ∙ ap without_mark c.line_at.ensures))
    ∙ ap (λ (n : ℕ). if_short false (without_line n (line_at n (file_lines text)) text)) same
