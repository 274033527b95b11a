use Rattle.std.proofs.Common.{List, [], ◌∷◌, ◌++◌, ap, ◌∙◌}
use Rattle.file_lint.specs.declared.finding.Finding.{Finding}
use Rattle.file_lint.proofs.RoundLemmas.{only_one}
use Rattle.file_lint.proofs.model_errors.only_error.Goals as goal

pub returns : goal.returns
returns c =
    only_one 999 c.args.first c.push.new.self.items c.requires
    (c.in_ok-push.ensures.items ∙ ap (λ (l : List Finding). l ++ c.in_ok-error.error ∷ []) c.new-errors.ensures.items ∙ ap (λ (e : Finding). e ∷ []) c.in_ok-error.ensures)
