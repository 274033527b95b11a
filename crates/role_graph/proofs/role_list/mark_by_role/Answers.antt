use Rattle.std.proofs.Common.{arith}
use Rattle.role_graph.specs.Helps.Kept.{linked_of}
use Rattle.role_graph.specs.Helps.Roles.{nodes_of}
use Rattle.role_graph.proofs.PickLemmas.{role_within}
use Rattle.role_graph.proofs.role_list.mark_by_role.Goals as goal

pub returns : goal.returns
returns c = λ a within.
    role_within (linked_of c.args._links.now) (nodes_of c.args.roles.now) c.args.square.now.cells c.args.name.now c.in-Some.node c.args.most c.args.marks.now c.mark_within.new.marks a c.requires.exact c.requires.most c.in-Some.ensures.found.0
    c.in-Some.ensures.found.1 within (c.mark_within.ensures a (omega (arith, c.requires.exact.long)))
