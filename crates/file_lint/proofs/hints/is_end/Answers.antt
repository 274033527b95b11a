use Rattle.std.proofs.Common.{ℕ, drop, ap, ◌∙◌}
use Rattle.std.proofs.lemmas.List.{take_rest}
use Rattle.file_lint.specs.Hints.{is_over}
use Rattle.file_lint.proofs.hints.is_end.Goals as goal

pub returns : goal.returns
returns c =
    c.is_over.ensures ∙ ap is_over (take_rest c.args.text.now c.blanks_before.result) ∙ ap (λ (n : ℕ). is_over (drop n c.args.text.now)) c.blanks_before.ensures.value
