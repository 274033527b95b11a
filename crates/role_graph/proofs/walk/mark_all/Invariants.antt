use Rattle.std.proofs.Common.{take}
use Rattle.role_graph.specs.Helps.Kept.{linked_of}
use Rattle.role_graph.proofs.WalkLemmas.{HaveMarked}
use Rattle.role_graph.proofs.walk.mark_all.Given as goal

abbrev pub invariant-loop-name : goal.invariant-loop-name
invariant-loop-name l = HaveMarked (linked_of l.links) (take l.name-index l.names) l.initial.reached l.initial.fresh l.reached l.fresh
