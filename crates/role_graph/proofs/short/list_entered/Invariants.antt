use Rattle.role_graph.specs.Helps.Kept.{linked_of}
use Rattle.role_graph.proofs.Reached.{IsListed}
use Rattle.role_graph.proofs.short.list_entered.Given as goal

abbrev pub invariant-loop-level : goal.invariant-loop-level
invariant-loop-level l = IsListed (linked_of l.links) l.fn.x l.most l._level l.from l.listed.items
