use Rattle.std.proofs.Common.{ℕ, List, ◌++◌, ap, ◌∙◌}
use Rattle.std.specs.Prelude.{flat_map}
use Rattle.matcher_read.specs.Expression.{Expression}
use Rattle.file_lint.specs.ModelWarnings.{column_warnings, model_warnings, node_warnings}
use Rattle.file_lint.specs.Nodes.{nodes_of}
use Rattle.file_lint.specs.declared.finding.Finding.{Finding}
use Rattle.file_lint.specs.Helps.Trees.{seen}
use Rattle.file_lint.proofs.model_warnings.model_warnings.Goals as goal

pub returns : goal.returns
unfolding model_warnings
returns c =
    let model = c.args.model.now in
    let text = c.in-Ok.text.now in
    let front = c.in_ok-push_column_warnings.ensures ∙ ap (λ (l : List Finding). l ++ column_warnings text model) c.new-found.ensures.items in
    let nodes = ap seen c.as_slice.ensures.value ∙ c.in_ok-nodes.ensures ∙ ap nodes_of c.matcher.ensures.value in
    c.in_ok-push_all_warnings.ensures ∙ ap (λ (l : List Finding). l ++ flat_map (node_warnings text) (seen c.as_slice.result.now)) front
    ∙ ap (λ (l : List Expression). column_warnings text model ++ flat_map (node_warnings text) l) nodes ∙ ap (λ (t : List ℕ). model_warnings t model) c.in-Ok.ensures.cases.0
