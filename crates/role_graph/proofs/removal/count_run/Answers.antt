use Rattle.std.proofs.Common.{arith, refl}
use Rattle.role_graph.proofs.Removals.{counting_begins, counting_ends, counting_few, counting_on, counting_stops}
use Rattle.role_graph.proofs.removal.count_run.Goals as goal

pub count_role-requires-clause-few : goal.count_role-requires-clause-few
count_role-requires-clause-few c = λ role. omega (arith, c.requires.none role)

pub loop-at-init : goal.loop-at-init
loop-at-init c = counting_begins c.args.user.now c.args.rows.now c.args.from c.args.gone.now c.count_role.new.gone c.requires.none c.in_ok-count_role.ensures

pub returns-then-not-is_same : goal.returns-then-not-is_same
returns-then-not-is_same c = counting_stops c.args.user.now c.args.rows.now c.args.from c.loop-at.at c.loop-at.gone (omega (arith, c.loop-at-test.true)) c.loop-at.invariant

pub count_role-requires-in-loop-at-clause-few : goal.count_role-requires-in-loop-at-clause-few
count_role-requires-in-loop-at-clause-few c = counting_few c.args.user.now c.args.rows.now c.args.from c.loop-at.at c.loop-at.gone (omega (arith, c.loop-at-test.true)) c.loop-at.invariant

pub loop-at-preserved : goal.loop-at-preserved
loop-at-preserved c = counting_on c.args.user.now c.args.rows.now c.args.from c.loop-at.at c.loop-at.gone c.count_role-in-loop-at.new.gone c.loop-at.invariant c.in_ok-count_role-2.ensures

pub returns : goal.returns
returns c = counting_ends c.args.user.now c.args.rows.now c.args.from c.loop-at.at _ c.loop-at.gone c.requires.from refl (omega (arith, c.loop-at-test.false)) c.loop-at.invariant
