use Rattle.role_graph.specs.Helps.Kept.{linked_of}
use Rattle.role_graph.proofs.ShortLists.{ListsNames}
use Rattle.role_graph.proofs.short.list_all.Given as goal

abbrev pub invariant-loop-name : goal.invariant-loop-name
invariant-loop-name l = ListsNames (linked_of l.links) l.names l.name-index l.initial.listed.items l.listed.items
