use Rattle.std.proofs.Common.{Some, Ok, Err}
use Rattle.std.proofs.lemmas.Result.{err_from_is_err_and}
use Rattle.run_files.proofs.ReadingLemmas.{none_absent, shapes_stop, suits_with}
use Rattle.enforce_core.proofs.parts.shapes_under.Goals as goal

pub returns-in_err-shapes_of-clause-stopped : goal.returns-in_err-shapes_of-clause-stopped
returns-in_err-shapes_of-clause-stopped c =
    let p = err_from_is_err_and c.from_residual.result c.from_residual.ensures.1 in
    rw (p.1, p.2) (shapes_stop (Some c.args.options.now) c.args.model.now (Err c.in_err-shapes_of.field-0.0) (rw (c.as_slice.ensures.value, c.as_slice-2.ensures.value) at c.in_err-shapes_of.ensures.missing))

pub returns-clause-fits : goal.returns-clause-fits
returns-clause-fits c = none_absent (Some c.args.options.now) c.args.model.now (Ok c.in_ok-shapes_of.field-0) (rw (c.as_slice.ensures.value, c.as_slice-2.ensures.value) at c.in_ok-shapes_of.ensures.missing)

pub returns-clause-suits : goal.returns-clause-suits
returns-clause-suits c =
    suits_with c.args.model.now (Some c.args.options.now) c.in_ok-shapes_of.field-0 c.as_slice.ensures.once c.as_slice-2.ensures.once
    (none_absent (Some c.args.options.now) c.args.model.now (Ok c.in_ok-shapes_of.field-0) (rw (c.as_slice.ensures.value, c.as_slice-2.ensures.value) at c.in_ok-shapes_of.ensures.missing))
    c.requires.0 c.requires.1 (rw (c.as_slice.ensures.value, c.as_slice-2.ensures.value) at c.in_ok-shapes_of.ensures.found)
