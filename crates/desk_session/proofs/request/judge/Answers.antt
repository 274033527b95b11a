use Rattle.std.proofs.Common.{map, ap, refl}
use Rattle.perm_value.specs.Seen.{datum}
use Rattle.desk_session.proofs.LogLemmas.{on_err_of}
use Rattle.desk_session.proofs.RequestLemmas.{answers_arity, answers_decided, asked_decided, decided_printable}
use Rattle.desk_session.proofs.request.judge.Goals as goal

pub returns-in-Err-clause-answer : goal.returns-in-Err-clause-answer
returns-in-Err-clause-answer g c =
    answers_arity c.args.program.now c.args.state.now (g.P.Finder.refusals c.args.finder.now) c.args.request.now c.in-Err.arity.got c.in-Err.arity.want c.in-Err.ensures.refused.0 (ap (λ r. r.got) c.in-Err.ensures.refused.1) (ap (λ r. r.want) c.in-Err.ensures.refused.1)

pub returns-in_err-verdict-clause-stopped : goal.returns-in_err-verdict-clause-stopped
returns-in_err-verdict-clause-stopped g c = on_err_of c.from_residual.result (asked_decided c.args.program.now c.args.request.now _ _ (c.in_default.ensures.taken.0 refl) c.decide.ensures.used)

pub returns-in_err-rule-clause-stopped : goal.returns-in_err-rule-clause-stopped
returns-in_err-rule-clause-stopped g c = on_err_of c.from_residual-in_err-rule.result (asked_decided c.args.program.now c.args.request.now _ _ (c.in_default.ensures.taken.0 refl) c.decide.ensures.used)

pub returns-clause-answer : goal.returns-clause-answer
returns-clause-answer g c =
    answers_decided c.args.program.now c.args.state.now _ _ c.args.request.now c.version-version.result c.in_ok-verdict.verdict _ (c.in_default.ensures.taken.0 refl) c.decide.ensures.used c.in_ok-verdict.ensures.judged c.version-version.ensures.value c.in_ok-rule.ensures

pub returns-clause-printable : goal.returns-clause-printable
returns-clause-printable g c =
    decided_printable c.order_of_rows_is_one.ensures.moved c.args.program.now c.args.state.now _ (map datum c.args.request.now) 0 _ _ c.in_ok-verdict.ensures.judged c.in_ok-rule.ensures
