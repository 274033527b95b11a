use Rattle.std.proofs.Common.{ℕ, List, true, ap, ◌∙◌}
use Rattle.model_conf.specs.Faults.{key_text}
use Rattle.file_lint.specs.Mended.{key_number, with_value}
use Rattle.file_lint.proofs.mended.with_columns.Goals as goal

pub returns : goal.returns
returns c =
    let text = c.args.text.now in
    c.in_ok-made.ensures ∙ ap (λ (key : List ℕ). with_value key c.usual_value-value.result.now true (key_number key text) text) c.key_text-name.ensures
    ∙ ap (λ (value : List ℕ). with_value (key_text c.args.key) value true (key_number (key_text c.args.key) text) text) c.usual_value-value.ensures
