use Rattle.std.proofs.lemmas.Result.{err_from_is_err_and}
use Rattle.live_rounds.proofs.RoundsLemmas.{none_shared, used_alike}
use Rattle.live_rounds.proofs.ScriptLemmas.{admin_first}
use Rattle.live_rounds.proofs.script.run_over.Goals as goal

-- the administrator stands before all items
pub run_rounds-shared-requires-clause-behind : goal.run_rounds-shared-requires-clause-behind
run_rounds-shared-requires-clause-behind g c = λ lifetimes outlive.
    admin_first _ _ c.in_ok-pair.pair.0 c.args.desk g.J.Naming.first c.in_ok-pair.ensures.desk c.in_ok-pair.ensures.list c.requires.first c.requires.shapes c.requires.stands c.holds.ensures.desk c.requires.opening c.requires.pending c.requires.keeps_all

pub returns-in_err-pair-clause-used : goal.returns-in_err-pair-clause-used
returns-in_err-pair-clause-used g c = used_alike _

-- memory ran out before the first round
pub returns-in_err-pair-clause-amid : goal.returns-in_err-pair-clause-amid
returns-in_err-pair-clause-amid g c =
    let p = err_from_is_err_and c.from_residual.result c.from_residual.ensures.1 in
    rw (p.1, p.2) (λ items is. none_shared c.args.program.now _ _ c.args.workers items _ g.T.Taker.took c.args.to.now c.plain_lines_are_shared.ensures.there g.T.Taker.stopped _ (used_alike _))
