use Rattle.std.proofs.Common.{ℕ, List, ◌++◌, ap, ◌∙◌}
use Rattle.std.specs.Prelude.{flat_map}
use Rattle.matcher_read.specs.Expression.{Expression}
use Rattle.file_lint.specs.Nodes.{looked_at, nodes_of}
use Rattle.file_lint.specs.declared.nodes.Looked.{Looked}
use Rattle.file_lint.specs.Helps.Trees.{seen}
use Rattle.file_lint.proofs.nodes.looked_in.Goals as goal

pub returns : goal.returns
returns c =
    let columns = c.policy_columns.result.now in
    let nodes = ap seen c.as_slice.ensures.value ∙ c.in_ok-nodes.ensures ∙ ap nodes_of c.matcher.ensures.value in
    c.in_ok-push_all_looked.ensures ∙ ap (λ (l : List Looked). l ++ flat_map (looked_at columns) (seen c.as_slice.result.now)) c.new-found.ensures.items
    ∙ ap (λ (l : List Expression). flat_map (looked_at columns) l) nodes ∙ ap (λ (names : List (List ℕ)). flat_map (looked_at names) (nodes_of c.args.model.now.matcher)) c.policy_columns.ensures.value
