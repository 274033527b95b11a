use Rattle.std.proofs.Common.{◌-◌}
use Rattle.std.specs.Str.{bytes_eq}
use Rattle.indexmap.specs.IndexSet.{contains}
use Rattle.role_graph.specs.Helps.Kept.{linked_of}
use Rattle.role_graph.specs.Helps.Names.{AreGathered}
use Rattle.role_graph.proofs.implied.gather.Given as goal

abbrev pub decreases-loop-at : goal.decreases-loop-at
decreases-loop-at l = 200000 - l.place

abbrev pub invariant-loop-at : goal.invariant-loop-at
invariant-loop-at l = AreGathered (linked_of l.links) l.x l.groups l.place (contains bytes_eq l.initial.seen) (contains bytes_eq l.seen) l.fresh.items
