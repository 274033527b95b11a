use Rattle.role_graph.specs.Helps.Kept.{linked_of}
use Rattle.role_graph.proofs.Reached.{IsEntering}
use Rattle.role_graph.proofs.reached_roles.entered.Given as goal

abbrev pub invariant-loop-level : goal.invariant-loop-level
invariant-loop-level l = IsEntering (linked_of l.links) l.fn.x l.most l._level l.reached l.fresh
