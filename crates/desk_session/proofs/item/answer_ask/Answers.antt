use Rattle.std.proofs.lemmas.Result.{IfOk-weaker}
use Rattle.script_read.specs.Said.{reading_of}
use Rattle.desk_session.proofs.StepLemmas.{request_step}
use Rattle.desk_session.proofs.item.answer_ask.Goals as goal

pub returns-clause-step : goal.returns-clause-step
returns-clause-step g c =
    IfOk-weaker c.answer_text.result _ _ (λ reply is. request_step c.args.program.now _ _ c.args.desk.now c.state.result.now c.state.ensures.state (reading_of c.args.asked.now) reply is) c.answer_text.ensures.answer
