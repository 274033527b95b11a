use Rattle.std.proofs.Common.{◌≡◌, drop, map}
use Rattle.matcher_read.specs.Expression.{among_some, expression, expressions_of}
use Rattle.matcher_read.specs.Kinds.{is_of}
use Rattle.matcher_read.proofs.kinds.+kinds.Given as goal

abbrev pub invariant-some_has_node-loop-tree : goal.invariant-some_has_node-loop-tree
invariant-some_has_node-loop-tree l = among_some (λ e. is_of e l.kind) (expressions_of (map expression l.trees)) ≡ among_some (λ e. is_of e l.kind) (expressions_of (map expression (drop l.tree-index l.trees)))
