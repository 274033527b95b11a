use Rattle.desk_session.proofs.CallerLemmas.{on_err_of}
use Rattle.script_read.specs.Said.{asks, reading}
use Rattle.loaded_work.proofs.ExplainLemmas.{both_refused, explains}
use Rattle.loaded_work.proofs.guide.push_asked.Goals as goal

pub returns-in_err-push_request-clause-stopped : goal.returns-in_err-push_request-clause-stopped
returns-in_err-push_request-clause-stopped g c = on_err_of c.from_residual.result c.in_err-push_request.ensures.stopped

pub returns-in_err-push_below-clause-stopped : goal.returns-in_err-push_below-clause-stopped
returns-in_err-push_below-clause-stopped g c =
    on_err_of c.from_residual-in_err-push_below.result (both_refused c.args.guide.now.program.now _ _ _ (asks (reading c.args.asked.now)) c.in_ok-push_request.ensures.told.answered.asked c.in_err-push_below.ensures.stopped)

pub returns-clause-told : goal.returns-clause-told
returns-clause-told g c =
    explains c.args.guide.now.explainer.now c.args.guide.now.most c.args.guide.now.program.now c.args.guide.now.state.now _ _ _ (reading c.args.asked.now) c.args.number _ _ _ c.in_ok-push_request.ensures.told c.in_ok-push_below.ensures.told
