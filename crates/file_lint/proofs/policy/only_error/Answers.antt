use Rattle.std.proofs.Common.{List, [], ◌∷◌, ◌++◌, ap, ◌∙◌}
use Rattle.file_lint.specs.declared.finding.Finding.{Finding}
use Rattle.file_lint.proofs.policy.only_error.Goals as goal

pub returns : goal.returns
returns c =
    c.in_ok-push.ensures.items ∙ ap (λ (l : List Finding). l ++ c.in_ok-error.error ∷ []) c.new-findings.ensures.items ∙ ap (λ (e : Finding). e ∷ []) c.in_ok-error.ensures
