use Rattle.std.proofs.Common.{refl}
use Rattle.regex_gate.proofs.CallerLemmas.{used_none}
use Rattle.desk_session.proofs.LogLemmas.{on_err_of}
use Rattle.desk_session.proofs.PlainLemmas.{all_answered, amid_at, amid_first, answered_printable, stands_before, stop_used, under_way_next, under_way_none, way_used}
use Rattle.desk_session.proofs.plain.run_plain.Goals as goal

pub returns-in_err-lines-clause-stopped : goal.returns-in_err-lines-clause-stopped
returns-in_err-lines-clause-stopped g c =
    on_err_of c.from_residual.result (amid_first _ _ c.args.desk.now (stands_before c.args.desk.now c.holds.ensures.desk c.requires.opening c.requires.none_pending c.requires.keeps_all))

pub loop-item-init : goal.loop-item-init
loop-item-init g c =
    under_way_none c.args.program.now _ _ _ c.args.desk.now (stands_before c.args.desk.now c.holds.ensures.desk c.requires.opening c.requires.none_pending c.requires.keeps_all) refl _ c.in_ok-lines.ensures.items

pub returns-in_err-answer-clause-stopped : goal.returns-in_err-answer-clause-stopped
returns-in_err-answer-clause-stopped g c =
    on_err_of c.from_residual-in_err-answer.result (amid_at _ _ _ c.as_slice-items.ensures c.loop-item.item-index c.answer_item.new.desk (c.in_err-answer.ensures.stopped _ _ c.loop-item.invariant.behind))

pub returns-in_err-push-clause-stopped : goal.returns-in_err-push-clause-stopped
returns-in_err-push-clause-stopped g c =
    let next = under_way_next c.args.program.now _ _ _ c.as_slice-items.result.now c.loop-item.item-index c.item-item.result c.loop-item.desk c.answer_item.new.desk c.loop-item.number c.saturating_add-number.result c.loop-item.lines.items _ c.in_ok-answer.answer _ _
    c.loop-item.invariant c.loop-item-test.true c.item-item.is c.saturating_add-number.ensures c.in_ok-answer.ensures.step c.answer_item.ensures.shapes refl in
    on_err_of c.from_residual-in_err-push.result (amid_at _ _ _ c.as_slice-items.ensures _ c.answer_item.new.desk next.behind.edits)

pub loop-item-preserved : goal.loop-item-preserved
loop-item-preserved g c =
    under_way_next c.args.program.now _ _ _ c.as_slice-items.result.now c.loop-item.item-index c.item-item.result c.loop-item.desk c.answer_item.new.desk c.loop-item.number c.saturating_add-number.result c.loop-item.lines.items _ c.in_ok-answer.answer _ _
    c.loop-item.invariant c.loop-item-test.true c.item-item.is c.saturating_add-number.ensures c.in_ok-answer.ensures.step c.answer_item.ensures.shapes c.in_ok-push.ensures.items

pub returns-in_err-lines-clause-used : goal.returns-in_err-lines-clause-used
returns-in_err-lines-clause-used g c = used_none (g.P.Finder.refusals c.args.finder.now)

pub returns-in_err-answer-clause-used : goal.returns-in_err-answer-clause-used
returns-in_err-answer-clause-used g c =
    stop_used c.args.program.now _ _ (g.P.Finder.refusals c.args.finder.now) _ c.loop-item.desk c.loop-item.number c.loop-item.lines.items _ _ _ c.loop-item.invariant c.in_err-answer.ensures.refused

pub returns-in_err-push-clause-used : goal.returns-in_err-push-clause-used
returns-in_err-push-clause-used g c =
    stop_used c.args.program.now _ _ (g.P.Finder.refusals c.args.finder.now) _ c.loop-item.desk c.loop-item.number c.loop-item.lines.items _ _ _ c.loop-item.invariant c.in_ok-answer.ensures.step.asked

pub returns-clause-used : goal.returns-clause-used
returns-clause-used g c = way_used c.args.program.now _ _ _ _ c.loop-item.desk c.loop-item.number c.loop-item.lines.items _ c.loop-item.invariant

pub returns-clause-plain : goal.returns-clause-plain
returns-clause-plain g c =
    all_answered c.args.program.now _ _ _ c.as_slice-items.result.now c.args.script.now c.as_slice-items.ensures c.loop-item.item-index c.loop-item-test.false c.loop-item.desk c.loop-item.number c.loop-item.lines.items c.from_vec.result _
    c.loop-item.invariant c.from_vec.ensures

pub returns-clause-printable : goal.returns-clause-printable
returns-clause-printable g c =
    let all = all_answered c.args.program.now _ _ _ c.as_slice-items.result.now c.args.script.now c.as_slice-items.ensures c.loop-item.item-index c.loop-item-test.false c.loop-item.desk c.loop-item.number c.loop-item.lines.items c.from_vec.result _
    c.loop-item.invariant c.from_vec.ensures in
    answered_printable c.order_of_rows_is_one.ensures.moved c.args.program.now _ _ _ _ _ c.from_vec.result all
