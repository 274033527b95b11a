use Rattle.std.proofs.Common.{arith}
use Rattle.role_graph.specs.Helps.Kept.{linked_of}
use Rattle.role_graph.proofs.Reached.{entering_begins, entering_ends, entering_on, entering_stops}
use Rattle.role_graph.proofs.WalkLemmas.{new_within}
use Rattle.role_graph.proofs.reached_roles.entered.Goals as goal

pub loop-level-init : goal.loop-level-init
loop-level-init c =
    entering_begins (linked_of c.args.links.now) c.args.x.now c.args.most c.new-reached.result c.begin-fresh.new.reached c.begin-fresh.result c.new-reached.ensures c.begin-fresh.ensures.marks c.begin-fresh.ensures.marked

pub returns-then-is_empty : goal.returns-then-is_empty
returns-then-is_empty c =
    entering_stops (linked_of c.args.links.now) c.args.x.now c.args.most c.loop-level._level c.loop-level.reached c.loop-level.fresh c.loop-level.invariant (c.is_empty.ensures c.if-is_empty.true)

pub step-fresh-requires : goal.step-fresh-requires
step-fresh-requires c = new_within (linked_of c.args.links.now) c.args.x.now c.loop-level._level c.loop-level.reached c.loop-level.fresh c.loop-level.invariant.reached_are

pub loop-level-preserved : goal.loop-level-preserved
loop-level-preserved c =
    entering_on (linked_of c.args.links.now) c.args.x.now c.args.most c.loop-level._level c.loop-level.reached c.loop-level.fresh c.step-fresh.new.reached c.step-fresh.result c.loop-level-test.true c.loop-level.invariant
    c.step-fresh.ensures.marks c.step-fresh.ensures.marked

pub returns : goal.returns
returns c =
    entering_ends (linked_of c.args.links.now) c.args.x.now c.args.most c.loop-level._level c.loop-level.reached c.loop-level.fresh (omega (arith, c.loop-level-test.false)) c.loop-level.invariant
