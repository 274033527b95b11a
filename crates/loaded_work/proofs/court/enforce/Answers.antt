use Rattle.script_read.specs.Script.{IsRequests}
use Rattle.loaded_work.proofs.WorkLemmas.{answers_over}
use Rattle.loaded_work.proofs.court.enforce.Goals as goal

pub returns : goal.returns
returns g c =
    let is = c.in_ok-opened.ensures in
    answers_over (IsRequests c.args.json c.args.input.now) _ _ _ _ _ c.args.loaded _ _ c.print_answers.result is.program_is is.shapes_are is.policy_is c.print_answers.ensures.printed c.print_answers.ensures.stopped c.print_answers.ensures.counted c.print_answers.ensures.used
