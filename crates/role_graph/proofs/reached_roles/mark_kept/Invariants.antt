use Rattle.role_graph.proofs.Reached.{IsCopied}
use Rattle.role_graph.proofs.reached_roles.mark_kept.Given as goal

abbrev pub invariant-loop-node : goal.invariant-loop-node
invariant-loop-node l = IsCopied l.near l.count l.node l.marks
