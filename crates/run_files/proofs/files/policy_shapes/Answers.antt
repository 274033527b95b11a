use Rattle.std.proofs.Common.{None, Some, Ok, Err, arith}
use Rattle.std.proofs.lemmas.Result.{err_from_is_err_and}
use Rattle.run_files.proofs.ReadingLemmas.{none_absent, shapes_stop, suits_with}
use Rattle.run_files.proofs.files.policy_shapes.Goals as goal

pub returns-in_err-shapes_of-clause-stopped : goal.returns-in_err-shapes_of-clause-stopped
returns-in_err-shapes_of-clause-stopped c =
    let p = err_from_is_err_and c.from_residual.result c.from_residual.ensures.1 in
    rw (p.1, p.2, c.in_default.is) (shapes_stop None c.args.model.now (Err c.in_err-shapes_of.field-0.0) c.in_err-shapes_of.ensures.missing)

pub returns-in_default-clause-fits : goal.returns-in_default-clause-fits
returns-in_default-clause-fits c = rw c.in_default.is (none_absent None c.args.model.now (Ok c.in_ok-shapes_of.field-0) c.in_ok-shapes_of.ensures.missing)

pub returns-in_default-clause-suits : goal.returns-in_default-clause-suits
returns-in_default-clause-suits c =
    suits_with c.args.model.now None c.in_ok-shapes_of.field-0 (λ i j d above within same. omega (arith, within)) (λ i j d above within same. omega (arith, within))
    (none_absent None c.args.model.now (Ok c.in_ok-shapes_of.field-0) c.in_ok-shapes_of.ensures.missing) (omega arith) (omega arith) c.in_ok-shapes_of.ensures.found

pub returns-in_err-shapes_of-2-clause-stopped : goal.returns-in_err-shapes_of-2-clause-stopped
returns-in_err-shapes_of-2-clause-stopped c =
    let p = err_from_is_err_and c.from_residual-in_err-shapes_of-2.result c.from_residual-in_err-shapes_of-2.ensures.1 in
    rw (p.1, p.2, c.in-Some.is) (shapes_stop (Some c.in-Some.options) c.args.model.now (Err c.in_err-shapes_of-2.field-0.0) (rw (c.as_slice.ensures.value, c.as_slice-2.ensures.value) at c.in_err-shapes_of-2.ensures.missing))

pub returns-clause-fits : goal.returns-clause-fits
returns-clause-fits c = rw c.in-Some.is (none_absent (Some c.in-Some.options) c.args.model.now (Ok c.in_ok-shapes_of-2.field-0) (rw (c.as_slice.ensures.value, c.as_slice-2.ensures.value) at c.in_ok-shapes_of-2.ensures.missing))

pub returns-clause-suits : goal.returns-clause-suits
returns-clause-suits c =
    let limit = rw c.in-Some.is at c.requires in
    suits_with c.args.model.now (Some c.in-Some.options) c.in_ok-shapes_of-2.field-0 c.as_slice.ensures.once c.as_slice-2.ensures.once
    (none_absent (Some c.in-Some.options) c.args.model.now (Ok c.in_ok-shapes_of-2.field-0) (rw (c.as_slice.ensures.value, c.as_slice-2.ensures.value) at c.in_ok-shapes_of-2.ensures.missing))
    limit.0 limit.1 (rw (c.as_slice.ensures.value, c.as_slice-2.ensures.value) at c.in_ok-shapes_of-2.ensures.found)
