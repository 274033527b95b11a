use Rattle.std.proofs.Common.{◌≡◌, ℕ, List, false, ap, ◌∙◌, rules}
use Rattle.file_lint.specs.Mended.{if_short, with_section}
use Rattle.file_lint.specs.ModelNames.{header_in}
use Rattle.file_lint.specs.Near.{near_name, section_names}
use Rattle.file_lint.specs.Places.{file_lines, line_at}
use Rattle.file_lint.proofs.mended.with_section.Goals as goal

pub returns : goal.returns
returns c =
    let text = c.args.text.now in
    let same : c.from-number.result ≡ c.args.at = search rules in
    let named = c.near_section-name.ensures ∙ ap (λ (n : List ℕ). near_name n section_names) (c.header_in.ensures ∙ ap header_in c.line_at.ensures) in
    c.if_short.ensures ∙ ap (if_short false) (c.in_ok-made.ensures ∙ ap (λ name. with_section c.from-number.result name text) named)
    ∙ ap (λ (n : ℕ). if_short false (with_section n (near_name (header_in (line_at n (file_lines text))) section_names) text)) same
