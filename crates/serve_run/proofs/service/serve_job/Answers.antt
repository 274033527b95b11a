use Rattle.std.proofs.Common.{◌≡◌, Err, inl, refl, rules}
use Rattle.std.specs.Prelude.{None}
use Rattle.std.proofs.lemmas.Result.{IfErr-weaker, on_ok_weaker}
use Rattle.regex_gate.proofs.CallerLemmas.{used_none}
use Rattle.serve_run.specs.Helps.ServedStreams.{at_files}
use Rattle.serve_run.specs.Moments.{moment}
use Rattle.serve_run.proofs.ServeLemmas.{job_served, job_stops}
use Rattle.serve_run.proofs.service.serve_job.Goals as goal

pub returns-in_err-opened-clause-stopped : goal.returns-in_err-opened-clause-stopped
returns-in_err-opened-clause-stopped g c =
    let stop : c.from_residual.result ≡ Err c.in_err-opened.field-0.0 = search rules in
    rw stop (at_files c.in_err-opened.ensures.stopped refl)

pub returns-in_err-opened-clause-no_further : goal.returns-in_err-opened-clause-no_further
returns-in_err-opened-clause-no_further g c = inl refl

pub returns-in_err-opened-clause-used : goal.returns-in_err-opened-clause-used
returns-in_err-opened-clause-used g c = used_none (g.P.Finder.refusals c.args.finder.now)

pub returns-clause-served : goal.returns-clause-served
returns-clause-served g c =
    let after = c.serve_opened.new in
    let before = moment None 0 (g.S.Source.left c.args.input.now) (g.S.Source.faults c.args.input.now) (g.K.Sink.taken c.args.out.now) (g.K.Sink.faults c.args.out.now) (g.E.Sink.taken c.args.err.now) (g.E.Sink.faults c.args.err.now) (g.P.Finder.refusals c.args.finder.now) in
    let now = moment None 0 (g.S.Source.left after.input) (g.S.Source.faults after.input) (g.K.Sink.taken after.out) (g.K.Sink.faults after.out) (g.E.Sink.taken after.err) (g.E.Sink.faults after.err) (g.P.Finder.refusals after.finder) in
    on_ok_weaker c.serve_opened.result (job_served (g.F.Shelf.files c.args.shelf.now) c.args.job.now c.in_ok-opened.opened c.in_ok-opened.ensures.opened (g.F.Shelf.calls c.args.shelf.now) (g.F.Shelf.calls c.open_files.new.shelf) (g.F.Shelf.faults c.args.shelf.now) (g.F.Shelf.faults c.open_files.new.shelf) c.in_ok-opened.ensures.fetched before now)
    c.serve_opened.ensures.served

pub returns-clause-stopped : goal.returns-clause-stopped
returns-clause-stopped g c =
    let after = c.serve_opened.new in
    let before = moment None 0 (g.S.Source.left c.args.input.now) (g.S.Source.faults c.args.input.now) (g.K.Sink.taken c.args.out.now) (g.K.Sink.faults c.args.out.now) (g.E.Sink.taken c.args.err.now) (g.E.Sink.faults c.args.err.now) (g.P.Finder.refusals c.args.finder.now) in
    let now = moment None 0 (g.S.Source.left after.input) (g.S.Source.faults after.input) (g.K.Sink.taken after.out) (g.K.Sink.faults after.out) (g.E.Sink.taken after.err) (g.E.Sink.faults after.err) (g.P.Finder.refusals after.finder) in
    IfErr-weaker c.serve_opened.result _ _ (job_stops (g.F.Shelf.files c.args.shelf.now) c.args.job.now c.in_ok-opened.opened c.in_ok-opened.ensures.opened (g.F.Shelf.calls c.args.shelf.now) (g.F.Shelf.calls c.open_files.new.shelf) (g.F.Shelf.faults c.args.shelf.now) (g.F.Shelf.faults c.open_files.new.shelf) c.in_ok-opened.ensures.fetched before now)
    c.serve_opened.ensures.stopped
