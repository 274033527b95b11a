use Rattle.std.proofs.Common.{ℕ, Bool, List, ap, ◌∙◌}
use Rattle.std.specs.Prelude.{string_bytes}
use Rattle.file_lint.specs.Mended.{if_short, is_guess, with_more}
use Rattle.file_lint.proofs.mended.with_missing.Goals as goal

pub returns : goal.returns
returns c =
    c.if_short.ensures ∙ ap (λ (guess : Bool). if_short guess (string_bytes c.in_ok-made.made)) c.is_guess.ensures
    ∙ ap (if_short (is_guess c.args.key)) (c.in_ok-made.ensures ∙ ap (λ (more : List ℕ). with_more more c.args.text.now) c.usual_lines.ensures)
