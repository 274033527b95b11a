use Rattle.std.proofs.Common.{take}
use Rattle.role_graph.specs.Helps.Kept.{linked_of}
use Rattle.role_graph.specs.Helps.Walks.{IsSought}
use Rattle.role_graph.proofs.Among.{NoneAmong}
use Rattle.role_graph.proofs.walk.some_is_sought.Given as goal

abbrev pub invariant-loop-name : goal.invariant-loop-name
invariant-loop-name l = NoneAmong (IsSought (linked_of l.links) l.sought) (take l.name-index l.names)
