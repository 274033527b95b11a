use Rattle.std.proofs.Common.{ap, refl}
use Rattle.std.proofs.lemmas.Result.{on_ok_weaker}
use Rattle.regex_gate.proofs.CallerLemmas.{used_none}
use Rattle.live_rounds.proofs.ServedLemmas.{behind_arity, behind_printed}
use Rattle.live_rounds.proofs.seat_answers.judge.Goals as goal

pub returns-in-Err-clause-served : goal.returns-in-Err-clause-served
returns-in-Err-clause-served g c =
    on_ok_weaker c.print.result
    (behind_arity c.args.program.now _ _ c.args.replies.now c.print.new.replies (g.P.Finder.refusals c.args.finder.now) c.args.seat.now c.args.request.now c.in-Err.arity.got c.in-Err.arity.want c.in-Err.ensures.refused.0 (ap (λ r. r.got) c.in-Err.ensures.refused.1) (ap (λ r. r.want) c.in-Err.ensures.refused.1))
    c.print.ensures.printed

pub returns-clause-served : goal.returns-clause-served
returns-clause-served g c =
    on_ok_weaker c.print_seat.result (behind_printed c.args.program.now _ _ c.args.replies.now c.print_seat.new.replies _ _ c.args.seat.now c.print_seat.new.seat c.args.request.now (c.in_default.ensures.taken.0 refl) c.print_seat.ensures.used)
    c.print_seat.ensures.printed

pub returns-in-Err-clause-used : goal.returns-in-Err-clause-used
returns-in-Err-clause-used g c = used_none _
