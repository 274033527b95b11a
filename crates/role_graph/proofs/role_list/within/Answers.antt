use Rattle.std.proofs.Common.{arith}
use Rattle.role_graph.specs.Helps.Kept.{linked_of}
use Rattle.role_graph.specs.Helps.Roles.{nodes_of}
use Rattle.role_graph.proofs.PickLemmas.{role_within, within_none, within_role, within_rows}
use Rattle.role_graph.proofs.role_list.within.Goals as goal

pub returns-in-Some : goal.returns-in-Some
returns-in-Some c =
    within_role (linked_of c.args.links.now) (nodes_of c.args.roles.now) c.args.x.now c.args.most c.no_nodes-marks.result c.mark_within.new.marks c.no_nodes-marks.ensures
    (λ a within. role_within (linked_of c.args.links.now) (nodes_of c.args.roles.now) c.args.square.now.cells c.args.x.now c.in-Some.node c.args.most c.no_nodes-marks.result c.mark_within.new.marks a c.requires.exact c.requires.most
    c.in-Some.ensures.found.0 c.in-Some.ensures.found.1 within (c.mark_within.ensures a (omega (arith, c.requires.exact.long))))

pub returns-then-most-gt0 : goal.returns-then-most-gt0
returns-then-most-gt0 c =
    within_rows (linked_of c.args.links.now) (nodes_of c.args.roles.now) c.args.x.now c.args.most c.no_nodes-marks.result c.mark_by_rows.new.marks c.if-most-gt0.true c.in_default.ensures.none c.no_nodes-marks.ensures c.mark_by_rows.ensures

pub returns-else-most-gt0 : goal.returns-else-most-gt0
returns-else-most-gt0 c =
    within_none (linked_of c.args.links.now) (nodes_of c.args.roles.now) c.args.x.now c.args.most c.no_nodes-marks.result (omega (arith, c.if-most-gt0.false)) c.in_default.ensures.none c.no_nodes-marks.ensures
