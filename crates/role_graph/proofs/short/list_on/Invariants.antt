use Rattle.std.proofs.Common.{◌≤◌}
use Rattle.role_graph.specs.Helps.Kept.{linked_of}
use Rattle.role_graph.proofs.ShortLists.{ListsGroups}
use Rattle.role_graph.proofs.short.list_on.Given as goal

abbrev pub invariant-loop-index : goal.invariant-loop-index
invariant-loop-index l = record {
  low : l.from ≤ l.index;
  lists : ListsGroups (linked_of l.links) l.initial.listed.items l.from l.index l.listed.items;
}
