use Rattle.std.proofs.Common.{ℕ, List, ◌∷◌, sym, ap, ◌∙◌}
use Rattle.text_parts.specs.Numbered.{text_lines}
use Rattle.text_parts.proofs.CallerLemmas.{text_lines-first, text_lines-none}
use Rattle.text_parts.proofs.lines.next_text_line.Goals as goal

pub returns-in_err-line-clause-none : goal.returns-in_err-line-clause-none
returns-in_err-line-clause-none c = rw c.from_residual.ensures (text_lines-none c.args.text.now c.in_err-line.ensures.none)

pub returns-clause-first : goal.returns-clause-first
returns-clause-first c = text_lines-first _ _ _ c.in_ok-line.ensures.first ∙ ap (λ (line : List ℕ). line ∷ text_lines c.in_ok-line.after.now) (sym c.without_cr.ensures)
