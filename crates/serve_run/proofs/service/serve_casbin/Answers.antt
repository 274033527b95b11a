use Rattle.std.proofs.Common.{refl, sym, ◌∙◌}
use Rattle.run_status.proofs.CallerLemmas.{is_never_done}
use Rattle.serve_run.specs.Moments.{moment}
use Rattle.serve_run.proofs.ServeLemmas.{stopped_serving}
use Rattle.serve_run.proofs.service.serve_casbin.Goals as goal

pub returns-in-Err-clause-ends : goal.returns-in-Err-clause-ends
returns-in-Err-clause-ends g c =
    let after = c.serve_words.new in
    let mid = moment (g.F.Shelf.calls after.shelf) (g.F.Shelf.faults after.shelf) (g.S.Source.left after.input) (g.S.Source.faults after.input) (g.K.Sink.taken after.out) (g.K.Sink.faults after.out) (g.E.Sink.taken after.err) (g.E.Sink.faults after.err) (g.P.Finder.refusals after.finder) in
    let now = moment (g.F.Shelf.calls after.shelf) (g.F.Shelf.faults after.shelf) (g.S.Source.left after.input) (g.S.Source.faults after.input) (g.K.Sink.taken after.out) (g.K.Sink.faults after.out) (g.E.Sink.taken c.tell_stop.new.err) (g.E.Sink.faults c.tell_stop.new.err) (g.P.Finder.refusals after.finder) in
    stopped_serving _ _ _ mid now c.tell_stop.result c.in-Err.stop c.tell_stop.ensures.status c.in-Err.ensures.stopped c.tell_stop.ensures.told refl

pub returns-in-Err-clause-read_to_end : goal.returns-in-Err-clause-read_to_end
returns-in-Err-clause-read_to_end g c = λ done. absurd (is_never_done c.in-Err.stop (sym c.tell_stop.ensures.status ∙ done))
