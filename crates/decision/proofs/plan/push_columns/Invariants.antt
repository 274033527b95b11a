use Rattle.std.proofs.Common.{◌≡◌, ◌++◌, drop, map}
use Rattle.matcher_read.specs.Expression.{expression, expressions_of}
use Rattle.model_conf.specs.Shapes.{place_of}
use Rattle.decision.specs.Helps.KeptPlans.{asked_among}
use Rattle.decision.proofs.plan.push_columns.Given as goal

abbrev pub invariant-loop-tree : goal.invariant-loop-tree
invariant-loop-tree l =
    l.names.items ++ map (place_of l.columns) (asked_among (expressions_of (map expression (drop l.tree-index l.trees))))
    ≡ l.fn.names.items ++ map (place_of l.columns) (asked_among (expressions_of (map expression l.trees)))
