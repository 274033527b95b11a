use Rattle.std.proofs.Common.{arith}
use Rattle.role_graph.specs.Helps.Roles.{nodes_of}
use Rattle.role_graph.proofs.Reached.{role_set}
use Rattle.role_graph.proofs.reached_roles.mark_role.Goals as goal

pub unreachable-requires : goal.unreachable-requires
unreachable-requires c = c.in_default.ensures.none c.requires.role

pub set-requires : goal.set-requires
set-requires c = let within = c.in-Some.ensures.found.0 in omega (arith, within, c.requires.few)

pub returns : goal.returns
returns c = λ a within.
    role_set (nodes_of c.args.roles.now) c.args.name.now c.in-Some.node c.args.marks.now c.set.new.self a c.place_of.ensures.once c.in-Some.ensures.found.0 c.in-Some.ensures.found.1 within c.set.ensures.marked c.set.ensures.kept c.set.ensures.only
