use Rattle.std.proofs.Common.{◌≡◌, ◌≤◌, Err, None, length, sym, ap, arith, rules}
use Rattle.outside.specs.Faults.{Rose}
use Rattle.outside.specs.Files.{Holds}
use Rattle.run_status.specs.Parts.{limit_of}
use Rattle.run_status.specs.declared.part.Part.TheVariants.{Policy}
use Rattle.lint_run.specs.Helps.{FetchStops, ShapesStop}
use Rattle.lint_run.specs.Lints.{absent_in, shapes_with}
use Rattle.lint_run.specs.declared.job.LintJob.{LintJob}
use Rattle.lint_run.proofs.LintLemmas.{options_unfit, policy_told, policy_unfetched}
use Rattle.lint_run.proofs.run.lint_policy_file.Goals as goal

pub lint_policy-requires-clause-short : goal.lint_policy-requires-clause-short
lint_policy-requires-clause-short g c = let within : length c.deref.result.now ≤ limit_of Policy = search rules in omega (arith, within)

pub returns-in_err-shapes-clause-stopped : goal.returns-in_err-shapes-clause-stopped
returns-in_err-shapes-clause-stopped g c =
    let stop : c.from_residual.result ≡ Err c.in_err-shapes.field-0.0 = search rules in
    let options = ap (λ (job : LintJob). job.options) (sym c.job.view_is) in
    let told : ShapesStop c.args.job.now.options c.args.model.now c.in_err-shapes.field-0.0 = rw options c.in_err-shapes.ensures.stopped in
    rw stop (options_unfit (g.F.Shelf.files c.args.shelf.now) c.args.job.now c.args.model.now (Rose (g.F.Shelf.faults c.args.shelf.now) (g.F.Shelf.faults c.args.shelf.now)) c.in_err-shapes.field-0.0 told)

pub returns-in_err-bytes-clause-stopped : goal.returns-in_err-bytes-clause-stopped
returns-in_err-bytes-clause-stopped g c =
    let stop : c.from_residual-in_err-bytes.result ≡ Err c.in_err-bytes.field-0.0 = search rules in
    let options = ap (λ (job : LintJob). job.options) (sym c.job.view_is) in
    let fits : absent_in c.args.job.now.options c.args.model.now ≡ None = rw options c.in_ok-shapes.ensures.fits in
    let file = ap (λ (job : LintJob). job.files.policy) (sym c.job.view_is) in
    let unfetched : FetchStops (g.F.Shelf.files c.args.shelf.now) c.args.job.now.files.policy Policy (Rose (g.F.Shelf.faults c.args.shelf.now) (g.F.Shelf.faults c.fetch.new.shelf)) c.in_err-bytes.field-0.0 = rw file c.in_err-bytes.ensures.stopped in
    rw stop (policy_unfetched (g.F.Shelf.files c.args.shelf.now) c.args.job.now c.args.model.now (Rose (g.F.Shelf.faults c.args.shelf.now) (g.F.Shelf.faults c.fetch.new.shelf)) c.in_err-bytes.field-0.0 fits unfetched)

pub returns-clause-linted : goal.returns-clause-linted
returns-clause-linted g c =
    let job = c.args.job.now in
    let files = g.F.Shelf.files c.args.shelf.now in
    let holds : Holds files job.files.policy c.deref.result.now = search rules in
    let within : length c.deref.result.now ≤ limit_of Policy = search rules in
    let options = ap (λ (job : LintJob). job.options) (sym c.job.view_is) in
    let fits : absent_in job.options c.args.model.now ≡ None = rw options c.in_ok-shapes.ensures.fits in
    let found : c.in_ok-shapes.shapes ≡ shapes_with job.options c.args.model.now = rw options c.in_ok-shapes.ensures.found in
    policy_told files job c.args.model.now c.in_ok-shapes.shapes c.deref.result.now c.in_ok-lint.lint.fault c.in_ok-lint.lint.findings.items holds within fits found c.in_ok-lint.ensures
