use Rattle.std.proofs.Common.{◌≤◌}
use Rattle.role_graph.specs.Helps.Kept.{linked_of}
use Rattle.role_graph.proofs.ShortLists.{NoneFrom}
use Rattle.role_graph.proofs.short.has_sought.Given as goal

abbrev pub invariant-loop-index : goal.invariant-loop-index
invariant-loop-index l = record {
  low : l.from ≤ l.index;
  none : NoneFrom (linked_of l.links) l.sought l.listed l.from l.index;
}
