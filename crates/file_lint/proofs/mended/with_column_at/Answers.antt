use Rattle.std.proofs.Common.{ℕ, List, ap, ◌∙◌}
use Rattle.file_lint.specs.Mended.{with_declared}
use Rattle.file_lint.proofs.mended.with_column_at.Goals as goal

pub returns : goal.returns
returns c = c.in_ok-made.ensures ∙ ap (λ (name : List ℕ). with_declared name c.args.text.now) c.matcher_at-name.ensures
