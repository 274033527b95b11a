use Rattle.std.proofs.Common.{ℕ, List, ap, ◌∙◌}
use Rattle.file_lint.specs.Mended.{key_number, with_relation, word_front}
use Rattle.file_lint.proofs.mended.with_relation_at.Goals as goal

pub returns : goal.returns
returns c =
    let text = c.args.text.now in
    c.in_ok-made.ensures ∙ ap (λ (name : List ℕ). with_relation name (key_number name text) text) (c.word_front-name.ensures ∙ ap word_front c.matcher_at.ensures)
