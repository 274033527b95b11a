use Rattle.std.proofs.Common.{ℕ, ◌+◌, ap, ◌∙◌}
use Rattle.file_lint.specs.Places.{blanks_before, place}
use Rattle.file_lint.proofs.values.front_of.Goals as goal

pub returns : goal.returns
returns c = ap (λ (n : ℕ). place c.args.number (n + 1)) (c.blanks_before.ensures.value ∙ ap blanks_before (c.as_bytes.ensures.value ∙ c.line_at.ensures))
