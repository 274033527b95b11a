use Rattle.std.proofs.Common.{ℕ, List, ◌++◌, ap, ◌∙◌}
use Rattle.file_lint.specs.Findings.{finding}
use Rattle.file_lint.specs.PolicyWords.{fault_column, policy_error, policy_words}
use Rattle.file_lint.specs.declared.finding.Level.TheVariants.{Error}
use Rattle.file_lint.proofs.policy_words.policy_error.Goals as goal

pub returns : goal.returns
unfolding policy_error
returns c =
    let line = c.args.text.now in
    let words = policy_words c.args.model.now c.args.why line in
    ap (λ (column : ℕ). finding c.args.number column Error c.from_string.result) c.fault_column.ensures
    ∙ ap (finding c.args.number (fault_column c.args.why line) Error) (c.from_string.ensures ∙ c.in_ok-push_words.ensures ∙ ap (λ (l : List ℕ). l ++ words) c.new-words.ensures.bytes)
