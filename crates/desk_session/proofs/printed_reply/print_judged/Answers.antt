use Rattle.std.proofs.Common.{Ok, map, ap, refl}
use Rattle.std.proofs.lemmas.Result.{on_ok_weaker}
use Rattle.perm_value.specs.Seen.{datum}
use Rattle.regex_gate.proofs.CallerLemmas.{used_none}
use Rattle.desk_session.proofs.LogLemmas.{none_asked, on_err_of}
use Rattle.desk_session.proofs.RequestLemmas.{adds_reply, answers_arity, answers_decided, asked_decided, decided_printable}
use Rattle.desk_session.proofs.printed_reply.print_judged.Goals as goal

-- ---- another number of values

pub returns-in-Err-clause-added : goal.returns-in-Err-clause-added
returns-in-Err-clause-added g c =
    let answered = answers_arity c.args.program.now c.args.state.now (g.P.Finder.refusals c.args.finder.now) c.args.request.now c.in-Err.arity.got c.in-Err.arity.want c.in-Err.ensures.refused.0 (ap (λ r. r.got) c.in-Err.ensures.refused.1) (ap (λ r. r.want) c.in-Err.ensures.refused.1) in
    on_ok_weaker c.push_answer.result (adds_reply c.args.program.now c.args.state.now _ _ (Ok (map datum c.args.request.now)) c.args.replies.now c.push_answer.new.self _ answered) c.push_answer.ensures.pushed

pub returns-in-Err-clause-stopped : goal.returns-in-Err-clause-stopped
returns-in-Err-clause-stopped g c = on_err_of c.push_answer.result (none_asked _ _ _)

pub returns-in-Err-clause-used : goal.returns-in-Err-clause-used
returns-in-Err-clause-used g c = used_none _

-- ---- a verdict

pub returns-in_err-verdict-clause-stopped : goal.returns-in_err-verdict-clause-stopped
returns-in_err-verdict-clause-stopped g c = on_err_of c.from_residual.result (asked_decided c.args.program.now c.args.request.now _ _ (c.in_default.ensures.taken.0 refl) c.decide.ensures.used)

pub push_verdict-requires : goal.push_verdict-requires
push_verdict-requires g c =
    record { printable = decided_printable c.order_of_rows_is_one.ensures.moved c.args.program.now c.args.state.now _ (map datum c.args.request.now) 0 _ _ c.in_ok-verdict.ensures.judged c.named_rule-rule.ensures }

pub returns-clause-added : goal.returns-clause-added
returns-clause-added g c =
    let answered = answers_decided c.args.program.now c.args.state.now (g.P.Finder.refusals c.args.finder.now) (g.P.Finder.refusals c.decide.new.finder) c.args.request.now c.version.result c.in_ok-verdict.verdict _ (c.in_default.ensures.taken.0 refl) c.decide.ensures.used c.in_ok-verdict.ensures.judged c.version.ensures.value c.named_rule-rule.ensures in
    on_ok_weaker c.push_verdict.result (adds_reply c.args.program.now c.args.state.now _ _ (Ok (map datum c.args.request.now)) c.args.replies.now c.push_verdict.new.self _ answered) c.push_verdict.ensures.pushed

pub returns-clause-stopped : goal.returns-clause-stopped
returns-clause-stopped g c = on_err_of c.push_verdict.result (asked_decided c.args.program.now c.args.request.now _ _ (c.in_default.ensures.taken.0 refl) c.decide.ensures.used)
