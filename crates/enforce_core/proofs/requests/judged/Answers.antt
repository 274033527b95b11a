use Rattle.std.proofs.Common.{ap, map, refl}
use Rattle.std.proofs.lemmas.Result.{err_from_is_err_and}
use Rattle.perm_value.specs.Seen.{datum}
use Rattle.enforce_core.proofs.AskLemmas.{values_arity, values_decided, values_starved}
use Rattle.enforce_core.proofs.requests.judged.Goals as goal

pub returns-in-Err : goal.returns-in-Err
returns-in-Err c =
    values_arity c.args.program.now c.args.state.now c.args.finder.now c.args.request.now c.in-Err.arity.got c.in-Err.arity.want c.in-Err.ensures.refused.0 (ap (λ r. r.got) c.in-Err.ensures.refused.1) (ap (λ r. r.want) c.in-Err.ensures.refused.1)

pub returns-in_err-verdict : goal.returns-in_err-verdict
returns-in_err-verdict c =
    let p = err_from_is_err_and c.from_residual.result c.from_residual.ensures.1 in
    rw (p.1, p.2) (values_starved c.args.program.now c.args.state.now c.args.finder.now c.decide.new.finder (map datum c.args.request.now) c.decide.ensures.used)

pub returns : goal.returns
returns c =
    values_decided c.args.program.now c.args.state.now c.args.finder.now c.decide.new.finder c.args.request.now c.version-version.result c.in_ok-verdict.verdict (c.in_default.ensures.taken.0 refl) c.version-version.ensures.value
    c.in_ok-verdict.ensures.judged c.in_ok-verdict.ensures.refused c.decide.ensures.used
