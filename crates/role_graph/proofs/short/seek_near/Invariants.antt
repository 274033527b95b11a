use Rattle.role_graph.specs.Helps.Kept.{linked_of}
use Rattle.role_graph.proofs.ShortLists.{IsListing}
use Rattle.role_graph.proofs.short.seek_near.Given as goal

abbrev pub invariant-loop-level : goal.invariant-loop-level
invariant-loop-level l = IsListing (linked_of l.links) l.sought l.fn.x l.level l.from l.listed.items
