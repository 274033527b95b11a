use Rattle.std.proofs.Common.{ℕ, List, true, codes, ap, ◌∙◌}
use Rattle.file_lint.specs.Mended.{key_number, with_value}
use Rattle.file_lint.proofs.mended.with_shape.Goals as goal

pub returns : goal.returns
returns c =
    let text = c.args.text.now in
    c.in_ok-made.ensures ∙ ap (λ (key : List ℕ). with_value key (codes "_, _") true (key_number key text) text) c.relation_key-name.ensures
