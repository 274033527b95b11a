use Rattle.std.specs.Str.{bytes_eq}
use Rattle.indexmap.specs.IndexSet.{contains}
use Rattle.role_graph.specs.Helps.Kept.{linked_of}
use Rattle.role_graph.proofs.GatherLemmas.{IsNaming}
use Rattle.role_graph.proofs.implied.implied.Given as goal

abbrev pub invariant-loop-level : goal.invariant-loop-level
invariant-loop-level l = IsNaming (linked_of l.links) l.fn.x l.most l._level l.reached l.groups l.names.items (contains bytes_eq l.seen)
