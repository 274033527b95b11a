use Rattle.std.proofs.Common.{ℕ, List, false, subst, ◌∙◌}
use Rattle.file_lint.specs.ModelErrors.{HasErrors, most_errors}
use Rattle.file_lint.proofs.RoundLemmas.{of_bytes}
use Rattle.file_lint.proofs.model_errors.errors_of.Goals as goal

pub only_error-requires : goal.only_error-requires
only_error-requires c = of_bytes c.args.bytes.now c.args.first c.requires c.in_default.ensures.cases.0

pub returns-in_default : goal.returns-in_default
returns-in_default c = c.in_ok-only.ensures c.args.bytes.now

pub returns : goal.returns
returns c =
    subst (λ (b : List ℕ). HasErrors most_errors false b c.args.first c.in_ok-errors.errors.items) (c.in_ok-owned.ensures.ok ∙ c.in-Ok.ensures.cases.0) c.in_ok-errors.ensures
