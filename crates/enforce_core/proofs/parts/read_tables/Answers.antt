use Rattle.std.proofs.lemmas.Result.{err_from_is_err_and}
use Rattle.enforce_core.proofs.OpeningLemmas.{policy_stopped}
use Rattle.enforce_core.proofs.parts.read_tables.Goals as goal

pub returns-in_err-read_policy-clause-stopped : goal.returns-in_err-read_policy-clause-stopped
returns-in_err-read_policy-clause-stopped c =
    let p = err_from_is_err_and c.from_residual.result c.from_residual.ensures.1 in
    rw (p.1, p.2) (policy_stopped c.args.shapes.now c.args.bytes.now c.in_err-read_policy.field-0.0 c.in_err-read_policy.ensures.fault)
