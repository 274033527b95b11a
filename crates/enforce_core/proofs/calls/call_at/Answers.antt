use Rattle.std.proofs.Common.{map, refl}
use Rattle.std.proofs.lemmas.Result.{err_from_is_err_and}
use Rattle.script_read.specs.Said.{seen}
use Rattle.enforce_core.proofs.CallLemmas.{calls_does, calls_unread, says_one}
use Rattle.enforce_core.proofs.calls.call_at.Goals as goal

pub returns-in_err-script-clause-ends : goal.returns-in_err-script-clause-ends
returns-in_err-script-clause-ends c =
    let p = err_from_is_err_and c.from_residual.result c.from_residual.ensures.1 in
    rw (p.1, p.2) (calls_unread c.args.desk.now c.args.text.now c.in_err-script.field-0.0 c.in_err-script.ensures.fault)

pub returns-in_default-clause-ends : goal.returns-in_default-clause-ends
returns-in_default-clause-ends c = (record { items = map seen c.in_ok-script.script; says = c.in_ok-script.ensures.found; none = c.in_default.ensures }, refl)

pub do_item-requires : goal.do_item-requires
do_item-requires c = record { other = c.in-Some.ensures.1 }

pub returns-clause-ends : goal.returns-clause-ends
returns-clause-ends c =
    calls_does c.args.desk.now c.do_item.new.desk c.args.text.now (seen c.in-Some.item.now) c.do_item.result
    (says_one c.args.text.now c.in_ok-script.script c.in-Some.item.now c.in_ok-script.ensures.found c.in-Some.ensures.0 c.in-Some.ensures.1) c.do_item.ensures.does
