use Rattle.role_graph.specs.Helps.Kept.{linked_of}
use Rattle.role_graph.specs.Helps.Roles.{nodes_of}
use Rattle.role_graph.proofs.PickLemmas.{IsListing}
use Rattle.role_graph.proofs.role_list.listed.Given as goal

abbrev pub invariant-loop-level : goal.invariant-loop-level
invariant-loop-level l = IsListing (linked_of l.links) (nodes_of l.roles) l.fn.x l.level l.seen l.names.items
