use Rattle.std.proofs.Common.{◌≡◌, refl, subst, sym}
use Rattle.std.specs.Prelude.{Option, OnOk}
use Rattle.std.proofs.lemmas.Result.{IfErr-weaker, err_from_is_err_and, on_ok_weaker}
use Rattle.item_stream.specs.Sections.{Section, left_at}
use Rattle.outside.specs.Faults.{Rose}
use Rattle.regex_gate.proofs.CallerLemmas.{used_none}
use Rattle.live_serve.specs.Helps.Ended.{LeavesEnded, TakesEnded}
use Rattle.live_serve.specs.Places.{is_followers}
use Rattle.live_serve.specs.Standings.{standing}
use Rattle.live_serve.proofs.PieceLemmas.{ended_stops}
use Rattle.live_serve.proofs.stream.serve_rest.Goals as goal

pub returns-in_err-section-clause-stopped : goal.returns-in_err-section-clause-stopped
returns-in_err-section-clause-stopped g c =
    let p = err_from_is_err_and c.from_residual.result c.from_residual.ensures.1 in
    rw (p.1, p.2) (ended_stops c.args.json (is_followers (standing c.args.clerk.now).place) c.args.program.now (standing c.args.clerk.now) (left_at c.args.sections.now) _ _ _ refl)

pub returns-in_err-section-clause-used : goal.returns-in_err-section-clause-used
returns-in_err-section-clause-used g c = used_none (g.P.Finder.refusals c.args.finder.now)

pub returns-clause-served : goal.returns-clause-served
returns-clause-served g c =
    on_ok_weaker c.serve_ended.result (λ takes. subst (λ (l : Option Section). TakesEnded c.args.json (is_followers (standing c.args.clerk.now).place) c.args.program.now (g.P.Finder.refusals c.args.finder.now) (g.P.Finder.refusals c.serve_ended.new.finder) (standing c.args.clerk.now) (standing c.serve_ended.new.clerk) l (g.K.Sink.taken c.args.out.now) (g.K.Sink.taken c.serve_ended.new.out)) c.in_ok-section.ensures takes)
    c.serve_ended.ensures.served

pub returns-clause-stopped : goal.returns-clause-stopped
returns-clause-stopped g c =
    IfErr-weaker c.serve_ended.result _ _ (λ stop leaves. subst (λ (l : Option Section). LeavesEnded c.args.json (is_followers (standing c.args.clerk.now).place) c.args.program.now (standing c.args.clerk.now) l (g.K.Sink.taken c.args.out.now) (g.K.Sink.taken c.serve_ended.new.out) (Rose (g.K.Sink.faults c.args.out.now) (g.K.Sink.faults c.serve_ended.new.out)) stop) c.in_ok-section.ensures leaves)
    c.serve_ended.ensures.stopped
