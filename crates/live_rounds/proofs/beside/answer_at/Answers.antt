use Rattle.desk_session.proofs.CallerLemmas.{on_err_of}
use Rattle.live_rounds.proofs.StepLemmas.{admin_step, admin_stopped}
use Rattle.script_read.specs.Said.{seen}
use Rattle.live_rounds.proofs.beside.answer_at.Goals as goal

pub returns-clause-step : goal.returns-clause-step
returns-clause-step g c = admin_step (seen c.args.item.now) c.args.admin.now c.answer_other.new.editor c.in_ok-reply.reply c.in_ok-reply.ensures.step c.answer_other.ensures.shapes c.in_ok-reply.ensures.beside

pub returns-in_err-reply-clause-stopped : goal.returns-in_err-reply-clause-stopped
returns-in_err-reply-clause-stopped g c = on_err_of c.from_residual.result (admin_stopped c.args.admin.now c.answer_other.new.editor c.in_err-reply.ensures.stopped c.in_err-reply.ensures.stays)
