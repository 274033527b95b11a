use Rattle.std.proofs.Common.{◌≡◌, ℕ, List, false, ap, ◌∙◌, rules}
use Rattle.file_lint.specs.Mended.{if_short, with_key}
use Rattle.file_lint.specs.ModelNames.{lower_of}
use Rattle.file_lint.specs.Places.{file_lines, key_in, line_at}
use Rattle.file_lint.proofs.mended.with_key.Goals as goal

pub returns : goal.returns
returns c =
    let text = c.args.text.now in
    let same : c.from-number.result ≡ c.args.at = search rules in
    let lower = c.lower_of-key.ensures ∙ ap lower_of c.key_in.ensures in
    c.if_short.ensures
    ∙ ap (if_short false)
    (c.in_ok-made.ensures ∙ ap (λ key. with_key c.from-number.result key c.line_at-whole.result.now text) lower
    ∙ ap (λ (l : List ℕ). with_key c.from-number.result (lower_of (key_in l)) l text) c.line_at-whole.ensures)
    ∙ ap (λ (n : ℕ). if_short false (with_key n (lower_of (key_in (line_at n (file_lines text)))) (line_at n (file_lines text)) text)) same
