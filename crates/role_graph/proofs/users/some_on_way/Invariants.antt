use Rattle.std.proofs.Common.{take}
use Rattle.role_graph.specs.Helps.Kept.{linked_of}
use Rattle.role_graph.specs.Helps.Users.{IsOnWay}
use Rattle.role_graph.proofs.Among.{NoneAmong}
use Rattle.role_graph.proofs.users.some_on_way.Given as goal

abbrev pub invariant-loop-role : goal.invariant-loop-role
invariant-loop-role l = NoneAmong (IsOnWay (linked_of l.links) l.x l.marks) (take l.role-index l.roles)
