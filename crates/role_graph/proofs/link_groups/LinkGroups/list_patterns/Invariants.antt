use Rattle.role_graph.specs.Helps.Kept.{linked_of}
use Rattle.role_graph.specs.Helps.Lists.{Lists}
use Rattle.role_graph.specs.Helps.Walks.{FitsAt}
use Rattle.role_graph.proofs.ShortLists.{FitsPattern}
use Rattle.role_graph.proofs.link_groups.LinkGroups.list_patterns.Given as goal

abbrev pub invariant-loop-at : goal.invariant-loop-at
invariant-loop-at l = Lists (FitsPattern l.fn.self l.name l.at) (FitsAt (linked_of l.fn.self) l.name) l.initial.listed.items l.listed.items
