use Rattle.std.proofs.Common.{sym}
use Rattle.matcher_read.proofs.CallLemmas.{calls_eval, calls_function, calls_nothing, calls_relation}
use Rattle.matcher_read.proofs.calls.called_by.Goals as goal

pub returns-in-Some : goal.returns-in-Some
returns-in-Some c = calls_function c.args.name.now c.in-Some.function c.in-Some.ensures

pub returns : goal.returns
returns c = calls_nothing c.args.name.now c.in_default.ensures c.in_default-relation_by.ensures (sym c.if-eq.ensures)

pub returns-then-eq : goal.returns-then-eq
returns-then-eq c = calls_eval c.args.name.now (sym c.if-eq.ensures)

pub returns-in-Some-relation_by : goal.returns-in-Some-relation_by
returns-in-Some-relation_by c = calls_relation c.args.name.now c.in-Some-relation_by.relation c.in_default.ensures c.in-Some-relation_by.ensures
