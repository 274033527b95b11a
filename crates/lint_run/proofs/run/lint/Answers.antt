use Rattle.std.proofs.Common.{◌≡◌, ◌<◌, ◌≤◌, Err, Option, Some, refl, sym, subst, ◌∙◌, rules}
use Rattle.std.specs.Prelude.{IfSome}
use Rattle.std.proofs.lemmas.Result.{err_from_is_err_and}
use Rattle.command_words.specs.Items.{texts}
use Rattle.outside.specs.Faults.{Rose}
use Rattle.outside.specs.Told.{TookFront}
use Rattle.lint_run.specs.Lints.{lint_asked, lint_text}
use Rattle.lint_run.specs.declared.job.LintJob.{LintJob}
use Rattle.lint_run.proofs.LintLemmas.{files_end}
use Rattle.lint_run.proofs.run.lint.Goals as goal

pub lint_files-requires : goal.lint_files-requires
lint_files-requires g c = subst (λ (found : Option LintJob). IfSome found (λ (job : LintJob). (0 < job.options.limit) × (job.options.limit ≤ 250))) c.in-Some.is c.in_ok-job.ensures.limit

pub returns-in_default-clause-stopped : goal.returns-in_default-clause-stopped
returns-in_default-clause-stopped g c = (sym c.in_ok-job.ensures.asked ∙ c.in_default.is, refl)

pub returns-in_err-linted-clause-stopped : goal.returns-in_err-linted-clause-stopped
returns-in_err-linted-clause-stopped g c =
    let stop : c.from_residual-in_err-linted.result ≡ Err c.in_err-linted.field-0.0 = search rules in
    let asked : lint_asked (texts c.args.words.now) ≡ Some c.in-Some.job = sym c.in_ok-job.ensures.asked ∙ c.in-Some.is in
    rw stop (files_end (texts c.args.words.now) (g.F.Shelf.files c.args.shelf.now) c.in-Some.job (Rose (g.F.Shelf.faults c.args.shelf.now) (g.F.Shelf.faults c.lint_files.new.shelf)) (Rose (g.K.Sink.faults c.args.out.now) (g.K.Sink.faults c.args.out.now)) (g.K.Sink.taken c.args.out.now) (g.K.Sink.taken c.args.out.now) c.in_err-linted.field-0.0 asked refl c.in_err-linted.ensures.stopped)

-- the text of the lint, of which `push_all` took a front, and its fault
pub returns-in_err-push_all-clause-stopped : goal.returns-in_err-push_all-clause-stopped
returns-in_err-push_all-clause-stopped g c =
    let job = c.in-Some.job in
    let linted = c.in_ok-linted.linted in
    let p = err_from_is_err_and c.from_residual-in_err-push_all.result c.from_residual-in_err-push_all.ensures.1 in
    let asked : lint_asked (texts c.args.words.now) ≡ Some job = sym c.in_ok-job.ensures.asked ∙ c.in-Some.is in
    let same : c.as_bytes.result.now ≡ lint_text job linted.model.items linted.policy.items = search rules in
    let front = subst (TookFront (g.K.Sink.taken c.args.out.now) (g.K.Sink.taken c.push_all.new.sink)) same c.in_err-push_all.ensures.stopped in
    rw (p.1, p.2) ((job, asked, (lint_text job linted.model.items linted.policy.items, linted.status, c.in_ok-linted.ensures.linted, front)), c.in_err-push_all.ensures.failed)

pub returns-clause-done : goal.returns-clause-done
returns-clause-done g c =
    let job = c.in-Some.job in
    let linted = c.in_ok-linted.linted in
    record { job = job; asked = sym c.in_ok-job.ensures.asked ∙ c.in-Some.is; text = lint_text job linted.model.items linted.policy.items; lints = c.in_ok-linted.ensures.linted; took = search rules }
