use Rattle.std.proofs.Common.{refl}
use Rattle.std.proofs.lemmas.Result.{err_from_is_err_and}
use Rattle.enforce_core.proofs.calls.publish_at.Goals as goal

pub returns-in_err-version-clause-ends : goal.returns-in_err-version-clause-ends
returns-in_err-version-clause-ends c =
    let p = err_from_is_err_and c.from_residual.result c.from_residual.ensures.1 in
    rw (p.1, p.2) (record { version = tt; published = tt; stopped = (refl, c.in_err-version.ensures.refused) })

pub returns-in_err-version-clause-shapes : goal.returns-in_err-version-clause-shapes
returns-in_err-version-clause-shapes c = c.in_err-version.ensures.refused.state.shapes

pub returns-clause-ends : goal.returns-clause-ends
returns-clause-ends c = record { version = c.in_ok-version.ensures.version; published = c.in_ok-version.ensures.published; stopped = tt }

pub returns-clause-shapes : goal.returns-clause-shapes
returns-clause-shapes c = c.in_ok-version.ensures.published.state.shapes
