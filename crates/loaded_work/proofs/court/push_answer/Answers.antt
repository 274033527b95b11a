use Rattle.std.proofs.lemmas.Result.{on_err_weaker, on_ok_weaker}
use Rattle.desk_session.proofs.CallerLemmas.{none_asked, on_err_of}
use Rattle.script_read.specs.Said.{reading}
use Rattle.script_read.proofs.CallerLemmas.{the_reader}
use Rattle.loaded_work.proofs.court.push_answer.Goals as goal

pub returns-in_err-asked-clause-stopped : goal.returns-in_err-asked-clause-stopped
returns-in_err-asked-clause-stopped g c =
    let reader = the_reader c.args.court.now.json in
    on_err_of c.from_residual.result (record { reading = reader.request c.args.line.now; says = reader.says c.args.line.now; asked = none_asked _ _ _ })

pub returns-clause-answered : goal.returns-clause-answered
returns-clause-answered g c =
    on_ok_weaker c.push_request-told.result (λ told. record { reading = reading c.in_ok-asked.asked; says = c.in_ok-asked.ensures.says; told = told }) c.push_request-told.ensures.told

pub returns-clause-stopped : goal.returns-clause-stopped
returns-clause-stopped g c =
    on_err_weaker c.push_request-told.result (λ asked. record { reading = reading c.in_ok-asked.asked; says = c.in_ok-asked.ensures.says; asked = asked }) c.push_request-told.ensures.stopped
