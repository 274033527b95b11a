use Rattle.std.proofs.lemmas.Result.{IfOk-weaker}
use Rattle.desk_session.proofs.CallerLemmas.{none_asked, on_err_of}
use Rattle.script_read.specs.Said.{reading}
use Rattle.script_read.proofs.CallerLemmas.{the_reader}
use Rattle.cached_work.proofs.cached.push_cached.Goals as goal

pub returns-in_err-asked-clause-stopped : goal.returns-in_err-asked-clause-stopped
returns-in_err-asked-clause-stopped g c =
    let reader = the_reader c.args.court.now.json in
    on_err_of c.from_residual.result (record { reading = reader.request c.args.line.now; says = reader.says c.args.line.now; asked = none_asked _ _ _ })

pub returns-clause-answered : goal.returns-clause-answered
returns-clause-answered g c =
    IfOk-weaker c.push_asked.result _ _ (λ hit told. record { answers = record { reading = reading c.in_ok-asked.asked; says = c.in_ok-asked.ensures.says; told = told.told }; turn = told.turn }) c.push_asked.ensures.told
