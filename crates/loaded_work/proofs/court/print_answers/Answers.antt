use Rattle.std.proofs.Common.{arith, refl, rules}
use Rattle.std.proofs.lemmas.Result.{err_from_is_err_and}
use Rattle.loaded_work.proofs.PrintLemmas.{printed_all, printed_memory, printed_more, printed_moved, printed_none, printed_used, printed_write, stopped_used}
use Rattle.script_read.proofs.CallerLemmas.{same_request, the_reader}
use Rattle.loaded_work.proofs.court.print_answers.Goals as goal

pub loop-line-init : goal.loop-line-init
loop-line-init g c = record { printed = λ reader. printed_none _ _ _ _ _ c.requires.opening c.new-text.ensures.bytes; utf8 = search rules }

pub returns-in_err-push_answer-clause-stopped : goal.returns-in_err-push_answer-clause-stopped
returns-in_err-push_answer-clause-stopped g c =
    let p = err_from_is_err_and c.from_residual.result c.from_residual.ensures.1 in
    let reader = the_reader c.args.court.now.json in
    rw (p.1, p.2) (printed_memory c.case_verdict_is_there.ensures _ c.args.input.now _ _ _ _ c.utf8.input refl (c.loop-line.invariant.printed reader)
    (same_request c.args.court.now.json) _ _ _ _ c.in-Some.ensures.first c.in_err-push_answer.ensures.stopped)

pub returns-in_err-push_answer-clause-counted : goal.returns-in_err-push_answer-clause-counted
returns-in_err-push_answer-clause-counted g c = (c.loop-line.invariant.printed (the_reader c.args.court.now.json)).told.counted

pub returns-in_err-push_answer-clause-used : goal.returns-in_err-push_answer-clause-used
returns-in_err-push_answer-clause-used g c =
    stopped_used _ _ _ _ _ _ _ (c.loop-line.invariant.printed (the_reader c.args.court.now.json)) c.in_err-push_answer.ensures.stopped

pub returns-in_err-push_full-clause-stopped : goal.returns-in_err-push_full-clause-stopped
returns-in_err-push_full-clause-stopped g c =
    let p = err_from_is_err_and c.from_residual-in_err-push_full.result c.from_residual-in_err-push_full.ensures.1 in
    let reader = the_reader c.args.court.now.json in
    let next = printed_more _ (same_request c.args.court.now.json) _ _ _ _ _ _ _ _ _ (c.loop-line.invariant.printed reader) c.in-Some.ensures.first c.next_number-number.ensures c.in_ok-push_answer.ensures.answered in
    rw (p.1, p.2) (printed_write c.case_verdict_is_there.ensures _ c.args.input.now _ _ _ _ c.utf8.input refl next _ _ c.in_err-push_full.ensures.stopped c.in_err-push_full.ensures.failed)

pub returns-in_err-push_full-clause-counted : goal.returns-in_err-push_full-clause-counted
returns-in_err-push_full-clause-counted g c =
    omega (arith, (c.loop-line.invariant.printed (the_reader c.args.court.now.json)).told.counted, c.push_full.ensures.counted)

pub returns-in_err-push_full-clause-used : goal.returns-in_err-push_full-clause-used
returns-in_err-push_full-clause-used g c =
    let reader = the_reader c.args.court.now.json in
    printed_used _ _ _ _ _ (printed_more _ (same_request c.args.court.now.json) _ _ _ _ _ _ _ _ _ (c.loop-line.invariant.printed reader) c.in-Some.ensures.first c.next_number-number.ensures c.in_ok-push_answer.ensures.answered)

pub loop-line-preserved : goal.loop-line-preserved
loop-line-preserved g c = record {
  printed = λ reader.
      let next = printed_more _ (same_request c.args.court.now.json) _ _ _ _ _ _ _ _ _ (c.loop-line.invariant.printed reader) c.in-Some.ensures.first c.next_number-number.ensures c.in_ok-push_answer.ensures.answered in
      printed_moved _ _ _ _ _ _ _ _ next c.in_ok-push_full.ensures.moved c.push_full.ensures.counted;
  utf8 = search rules;
}

pub returns-in_err-push_all-clause-stopped : goal.returns-in_err-push_all-clause-stopped
returns-in_err-push_all-clause-stopped g c =
    let p = err_from_is_err_and c.from_residual-in_err-push_all.result c.from_residual-in_err-push_all.ensures.1 in
    let reader = the_reader c.args.court.now.json in
    rw (p.1, p.2) (printed_write c.case_verdict_is_there.ensures _ c.args.input.now _ _ _ _ c.utf8.input refl (c.loop-line.invariant.printed reader) _ _ (rw c.as_bytes.ensures.value at c.in_err-push_all.ensures.stopped) c.in_err-push_all.ensures.failed)

pub returns-in_err-push_all-clause-counted : goal.returns-in_err-push_all-clause-counted
returns-in_err-push_all-clause-counted g c =
    omega (arith, (c.loop-line.invariant.printed (the_reader c.args.court.now.json)).told.counted, c.push_all.ensures.counted)

pub returns-in_err-push_all-clause-used : goal.returns-in_err-push_all-clause-used
returns-in_err-push_all-clause-used g c = printed_used _ _ _ _ _ (c.loop-line.invariant.printed (the_reader c.args.court.now.json))

pub returns-clause-printed : goal.returns-clause-printed
returns-clause-printed g c =
    let reader = the_reader c.args.court.now.json in
    printed_all _ c.args.input.now _ _ _ _ _ c.utf8.input refl (c.loop-line.invariant.printed reader) c.in_default.ensures.none (rw c.as_bytes.ensures.value at c.in_ok-push_all.ensures.took)

pub returns-clause-counted : goal.returns-clause-counted
returns-clause-counted g c =
    omega (arith, (c.loop-line.invariant.printed (the_reader c.args.court.now.json)).told.counted, c.push_all.ensures.counted)

pub returns-clause-used : goal.returns-clause-used
returns-clause-used g c = printed_used _ _ _ _ _ (c.loop-line.invariant.printed (the_reader c.args.court.now.json))
