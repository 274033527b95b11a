use Rattle.std.proofs.Common.{arith, refl, rules}
use Rattle.std.proofs.lemmas.Result.{err_from_is_err_and}
use Rattle.loaded_work.proofs.ExplainLemmas.{explained_all, explained_memory, explained_more, explained_moved, explained_none, explained_stopped, explained_used, explained_write}
use Rattle.script_read.proofs.CallerLemmas.{same_request, the_reader}
use Rattle.loaded_work.proofs.guide.print_explained.Goals as goal

pub loop-line-init : goal.loop-line-init
loop-line-init g c = record { explained = λ reader. explained_none _ _ _ _ _ _ _ c.requires.opening c.new-text.ensures.bytes; utf8 = search rules }

pub returns-in_err-push_explained-clause-stopped : goal.returns-in_err-push_explained-clause-stopped
returns-in_err-push_explained-clause-stopped g c =
    let p = err_from_is_err_and c.from_residual.result c.from_residual.ensures.1 in
    let reader = the_reader c.args.guide.now.json in
    rw (p.1, p.2) (explained_memory c.case_verdict_is_there.ensures c.near_misses_are_there.ensures _ _ _ c.args.input.now _ _ _ _ c.utf8.input refl (c.loop-line.invariant.explained reader) c.requires.parts
    (same_request c.args.guide.now.json) _ _ _ _ c.in-Some.ensures.first c.in_err-push_explained.ensures.stopped)

pub returns-in_err-push_explained-clause-counted : goal.returns-in_err-push_explained-clause-counted
returns-in_err-push_explained-clause-counted g c = (c.loop-line.invariant.explained (the_reader c.args.guide.now.json)).told.counted

pub returns-in_err-push_explained-clause-used : goal.returns-in_err-push_explained-clause-used
returns-in_err-push_explained-clause-used g c =
    explained_stopped _ _ _ _ _ _ _ _ _ (c.loop-line.invariant.explained (the_reader c.args.guide.now.json)) c.in_err-push_explained.ensures.stopped

pub returns-in_err-push_full-clause-stopped : goal.returns-in_err-push_full-clause-stopped
returns-in_err-push_full-clause-stopped g c =
    let p = err_from_is_err_and c.from_residual-in_err-push_full.result c.from_residual-in_err-push_full.ensures.1 in
    let reader = the_reader c.args.guide.now.json in
    let next = explained_more _ _ _ (same_request c.args.guide.now.json) _ _ _ _ _ _ _ _ _ (c.loop-line.invariant.explained reader) c.in-Some.ensures.first c.next_number-number.ensures c.in_ok-push_explained.ensures.explained in
    rw (p.1, p.2) (explained_write c.case_verdict_is_there.ensures c.near_misses_are_there.ensures _ _ _ c.args.input.now _ _ _ _ c.utf8.input refl next c.requires.parts _ _ c.in_err-push_full.ensures.stopped c.in_err-push_full.ensures.failed)

pub returns-in_err-push_full-clause-counted : goal.returns-in_err-push_full-clause-counted
returns-in_err-push_full-clause-counted g c =
    omega (arith, (c.loop-line.invariant.explained (the_reader c.args.guide.now.json)).told.counted, c.push_full.ensures.counted)

pub returns-in_err-push_full-clause-used : goal.returns-in_err-push_full-clause-used
returns-in_err-push_full-clause-used g c =
    let reader = the_reader c.args.guide.now.json in
    explained_used _ _ _ _ _ _ _ (explained_more _ _ _ (same_request c.args.guide.now.json) _ _ _ _ _ _ _ _ _ (c.loop-line.invariant.explained reader) c.in-Some.ensures.first c.next_number-number.ensures c.in_ok-push_explained.ensures.explained)

pub loop-line-preserved : goal.loop-line-preserved
loop-line-preserved g c = record {
  explained = λ reader.
      let next = explained_more _ _ _ (same_request c.args.guide.now.json) _ _ _ _ _ _ _ _ _ (c.loop-line.invariant.explained reader) c.in-Some.ensures.first c.next_number-number.ensures c.in_ok-push_explained.ensures.explained in
      explained_moved _ _ _ _ _ _ _ _ _ _ next c.in_ok-push_full.ensures.moved c.push_full.ensures.counted;
  utf8 = search rules;
}

pub returns-in_err-push_all-clause-stopped : goal.returns-in_err-push_all-clause-stopped
returns-in_err-push_all-clause-stopped g c =
    let p = err_from_is_err_and c.from_residual-in_err-push_all.result c.from_residual-in_err-push_all.ensures.1 in
    let reader = the_reader c.args.guide.now.json in
    rw (p.1, p.2) (explained_write c.case_verdict_is_there.ensures c.near_misses_are_there.ensures _ _ _ c.args.input.now _ _ _ _ c.utf8.input refl (c.loop-line.invariant.explained reader) c.requires.parts _ _ (rw c.as_bytes.ensures.value at c.in_err-push_all.ensures.stopped) c.in_err-push_all.ensures.failed)

pub returns-in_err-push_all-clause-counted : goal.returns-in_err-push_all-clause-counted
returns-in_err-push_all-clause-counted g c =
    omega (arith, (c.loop-line.invariant.explained (the_reader c.args.guide.now.json)).told.counted, c.push_all.ensures.counted)

pub returns-in_err-push_all-clause-used : goal.returns-in_err-push_all-clause-used
returns-in_err-push_all-clause-used g c = explained_used _ _ _ _ _ _ _ (c.loop-line.invariant.explained (the_reader c.args.guide.now.json))

pub returns-clause-printed : goal.returns-clause-printed
returns-clause-printed g c =
    let reader = the_reader c.args.guide.now.json in
    explained_all _ _ _ c.args.input.now _ _ _ _ _ c.utf8.input refl (c.loop-line.invariant.explained reader) c.requires.parts c.in_default.ensures.none (rw c.as_bytes.ensures.value at c.in_ok-push_all.ensures.took)

pub returns-clause-counted : goal.returns-clause-counted
returns-clause-counted g c =
    omega (arith, (c.loop-line.invariant.explained (the_reader c.args.guide.now.json)).told.counted, c.push_all.ensures.counted)

pub returns-clause-used : goal.returns-clause-used
returns-clause-used g c = explained_used _ _ _ _ _ _ _ (c.loop-line.invariant.explained (the_reader c.args.guide.now.json))
