use Rattle.std.proofs.Common.{◌≡◌, ◌++◌, drop, map}
use Rattle.matcher_read.specs.Expression.{expression, expressions_of}
use Rattle.file_lint.specs.Helps.Trees.{seen}
use Rattle.file_lint.specs.Nodes.{all_nodes_of}
use Rattle.file_lint.proofs.nodes.+pushing.Given as goal

abbrev pub invariant-push_all_nodes-loop-tree : goal.invariant-push_all_nodes-loop-tree
invariant-push_all_nodes-loop-tree l =
    seen l.nodes.items ++ all_nodes_of (expressions_of (map expression (drop l.tree-index l.trees))) ≡ seen l.fn.nodes.items ++ all_nodes_of (expressions_of (map expression l.trees))
