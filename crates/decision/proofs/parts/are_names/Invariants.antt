use Rattle.std.proofs.Common.{◌≡◌, drop, map}
use Rattle.matcher_read.specs.Expression.{expression, expressions_of}
use Rattle.decision.specs.Plans.{are_names}
use Rattle.decision.proofs.parts.are_names.Given as goal

abbrev pub invariant-loop-tree : goal.invariant-loop-tree
invariant-loop-tree l = are_names (expressions_of (map expression (drop l.tree-index l.trees))) ≡ are_names (expressions_of (map expression l.trees))
