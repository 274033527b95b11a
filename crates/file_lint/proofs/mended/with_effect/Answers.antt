use Rattle.std.proofs.Common.{ℕ, List, false, codes, ap, ◌∙◌}
use Rattle.file_lint.specs.Mended.{key_number, with_value}
use Rattle.file_lint.proofs.mended.with_effect.Goals as goal

pub returns : goal.returns
returns c =
    let text = c.args.text.now in
    c.in_ok-made.ensures ∙ ap (λ (value : List ℕ). with_value (codes "e") value false (key_number (codes "e") text) text) c.usual_value-value.ensures
