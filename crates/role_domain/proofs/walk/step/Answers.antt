use Rattle.std.proofs.Common.{◌<◌, length, arith}
use Rattle.role_domain.specs.Helps.Walks.{walk_of}
use Rattle.role_domain.proofs.Marks.{gone_none, gone_on, none_marked, role_at}
use Rattle.role_domain.proofs.walk.step.Goals as goal

pub loop-at-init : goal.loop-at-init
loop-at-init c = gone_none (walk_of c.args.terms c.args.rows.now c.args.text.now) c.args.from.now c.args.reached.now _ (none_marked 64)

pub loop-at-preserved : goal.loop-at-preserved
loop-at-preserved c =
    let within : c.loop-at.at < length c.args.rows.now = omega arith in
    gone_on (walk_of c.args.terms c.args.rows.now c.args.text.now) c.args.from.now c.loop-at.at c.field.result.now c.args.reached.now c.loop-at.reached c.loop-at.fresh c.enter.new.reached c.enter.new.fresh c.if-not-from-at.false
    (role_at (walk_of c.args.terms c.args.rows.now c.args.text.now) c.loop-at.at c.index-rows-at.result c.field.result.now within c.index-rows-at.is c.field.ensures.value) c.enter.ensures.marks c.enter.ensures.marked c.loop-at.invariant
