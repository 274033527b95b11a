use Rattle.std.proofs.Common.{◌≡◌, ◌≤◌, Err, length, sym, ap, rules}
use Rattle.outside.specs.Faults.{Rose}
use Rattle.outside.specs.Files.{Holds}
use Rattle.run_status.specs.Parts.{limit_of}
use Rattle.run_status.specs.declared.part.Part.TheVariants.{Model}
use Rattle.lint_run.specs.Helps.{FetchStops}
use Rattle.lint_run.specs.declared.job.LintJob.{LintJob}
use Rattle.lint_run.proofs.LintLemmas.{alone_linted, both_linted, both_unlinted, fault_told, model_held, model_told, model_unfetched}
use Rattle.lint_run.proofs.run.lint_files.Goals as goal

pub returns-in_err-bytes-clause-stopped : goal.returns-in_err-bytes-clause-stopped
returns-in_err-bytes-clause-stopped g c =
    let stop : c.from_residual.result ≡ Err c.in_err-bytes.field-0.0 = search rules in
    let file = ap (λ (job : LintJob). job.files.model) (sym c.job.view_is) in
    let unfetched : FetchStops (g.F.Shelf.files c.args.shelf.now) c.args.job.now.files.model Model (Rose (g.F.Shelf.faults c.args.shelf.now) (g.F.Shelf.faults c.fetch.new.shelf)) c.in_err-bytes.field-0.0 = rw file c.in_err-bytes.ensures.stopped in
    rw stop (model_unfetched (g.F.Shelf.files c.args.shelf.now) c.args.job.now (Rose (g.F.Shelf.faults c.args.shelf.now) (g.F.Shelf.faults c.fetch.new.shelf)) c.in_err-bytes.field-0.0 unfetched)

pub returns-in-Ok-clause-linted : goal.returns-in-Ok-clause-linted
returns-in-Ok-clause-linted g c =
    let job = c.args.job.now in
    let files = g.F.Shelf.files c.args.shelf.now in
    let found = c.in_ok-lint.lint.findings.items in
    let holds : Holds files job.files.model c.deref.result.now = search rules in
    let within : length c.deref.result.now ≤ limit_of Model = search rules in
    let held = model_told files job.files.model c.deref.result.now c.in_ok-lint.lint.read found c.in-Ok.model holds within c.in_ok-lint.ensures c.in-Ok.is in
    both_linted files (g.F.Shelf.files c.fetch.new.shelf) job c.in-Ok.model found c.lint_both.result c.in_ok-bytes.ensures.same_files held c.lint_both.ensures.kept c.lint_both.ensures.told

pub returns-in-Ok-clause-stopped : goal.returns-in-Ok-clause-stopped
returns-in-Ok-clause-stopped g c =
    let job = c.args.job.now in
    let files = g.F.Shelf.files c.args.shelf.now in
    let found = c.in_ok-lint.lint.findings.items in
    let holds : Holds files job.files.model c.deref.result.now = search rules in
    let within : length c.deref.result.now ≤ limit_of Model = search rules in
    let held = model_told files job.files.model c.deref.result.now c.in_ok-lint.lint.read found c.in-Ok.model holds within c.in_ok-lint.ensures c.in-Ok.is in
    both_unlinted files (g.F.Shelf.files c.fetch.new.shelf) job c.in-Ok.model (g.F.Shelf.faults c.args.shelf.now) (g.F.Shelf.faults c.fetch.new.shelf) (g.F.Shelf.faults c.lint_both.new.shelf) c.lint_both.result c.in_ok-bytes.ensures.same_files
    c.in_ok-bytes.ensures.counted (model_held files job.files.model c.in-Ok.model found held) c.lint_both.ensures.stopped

pub returns-clause-linted : goal.returns-clause-linted
returns-clause-linted g c =
    let job = c.args.job.now in
    let files = g.F.Shelf.files c.args.shelf.now in
    let found = c.in_ok-lint.lint.findings.items in
    let holds : Holds files job.files.model c.deref.result.now = search rules in
    let within : length c.deref.result.now ≤ limit_of Model = search rules in
    let held = fault_told files job.files.model c.deref.result.now c.in_ok-lint.lint.read found c.in-Err.first holds within c.in_ok-lint.ensures c.in-Err.is in
    alone_linted files job c.in-Err.first found c.model_alone.result held c.model_alone.ensures.kept c.model_alone.ensures.none c.model_alone.ensures.ends
