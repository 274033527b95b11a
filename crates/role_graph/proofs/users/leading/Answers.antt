use Rattle.role_graph.specs.Helps.Kept.{linked_of}
use Rattle.role_graph.proofs.LeadLemmas.{back_first, back_last, back_on, back_stops}
use Rattle.role_graph.proofs.users.leading.Goals as goal

pub loop-level-init : goal.loop-level-init
loop-level-init c = back_first (linked_of c.args.links.now) c.args.x.now c.args.most c.new-marks.result c.new-marks.ensures

pub returns-then-not-has_new : goal.returns-then-not-has_new
returns-then-not-has_new c =
    back_stops (linked_of c.args.links.now) c.args.x.now c.args.most c.loop-level._level c.loop-level.marks c.step_back-more.result c.step_back-more.ensures (c.has_new.ensures c.if-not-has_new.true) c.loop-level.invariant

pub loop-level-preserved : goal.loop-level-preserved
loop-level-preserved c =
    back_on (linked_of c.args.links.now) c.args.x.now c.args.most c.loop-level._level c.loop-level.marks c.step_back-more.result c.loop-level-test.true c.step_back-more.ensures c.loop-level.invariant

pub returns : goal.returns
returns c = back_last (linked_of c.args.links.now) c.args.x.now c.args.most c.loop-level._level c.loop-level.marks c.loop-level-test.false c.loop-level.invariant
