use Rattle.std.proofs.Common.{inl, refl, subst, sym}
use Rattle.std.specs.Prelude.{None}
use Rattle.std.proofs.lemmas.Result.{IfErr-weaker, err_from_is_err_and, on_ok_weaker}
use Rattle.decision.specs.Programs.{Suits}
use Rattle.live_serve.specs.Standings.{standing}
use Rattle.policy_state.specs.States.{State}
use Rattle.regex_gate.proofs.CallerLemmas.{used_none}
use Rattle.serve_run.specs.Moments.{moment}
use Rattle.serve_run.proofs.ServeLemmas.{stream_served, stream_stops}
use Rattle.serve_run.proofs.service.serve_opened.Goals as goal

pub clerk_for-requires : goal.clerk_for-requires
clerk_for-requires g c = c.requires.opening

pub returns-in_err-clerk-clause-stopped : goal.returns-in_err-clerk-clause-stopped
returns-in_err-clerk-clause-stopped g c =
    let p = err_from_is_err_and c.from_residual.result c.from_residual.ensures.1 in
    rw p.1 (inl (p.2, refl))

pub returns-in_err-clerk-clause-no_further : goal.returns-in_err-clerk-clause-no_further
returns-in_err-clerk-clause-no_further g c = inl refl

pub returns-in_err-clerk-clause-used : goal.returns-in_err-clerk-clause-used
returns-in_err-clerk-clause-used g c = used_none (g.P.Finder.refusals c.args.finder.now)

-- where the clerk stands
pub serve_stream-requires-clause-suits : goal.serve_stream-requires-clause-suits
serve_stream-requires-clause-suits g c = λ lifetimes outlive. subst (λ (s : State). Suits c.args.opened.program s.shapes) (sym c.in_ok-clerk.ensures.state_is) c.requires.suits

pub serve_stream-requires-clause-first : goal.serve_stream-requires-clause-first
serve_stream-requires-clause-first g c = λ lifetimes outlive. c.in_ok-clerk.ensures.first

pub serve_stream-requires-clause-no_line : goal.serve_stream-requires-clause-no_line
serve_stream-requires-clause-no_line g c = λ lifetimes outlive. c.in_ok-clerk.ensures.no_line

pub returns-clause-served : goal.returns-clause-served
returns-clause-served g c =
    let after = c.serve_stream.new in
    let before = moment None 0 (g.S.Source.left c.args.input.now) (g.S.Source.faults c.args.input.now) (g.K.Sink.taken c.args.out.now) (g.K.Sink.faults c.args.out.now) (g.E.Sink.taken c.args.err.now) (g.E.Sink.faults c.args.err.now) (g.P.Finder.refusals c.args.finder.now) in
    let now = moment None 0 (g.S.Source.left after.input) (g.S.Source.faults after.input) (g.K.Sink.taken after.out) (g.K.Sink.faults after.out) (g.E.Sink.taken c.tell_serving.new.err) (g.E.Sink.faults c.tell_serving.new.err) (g.P.Finder.refusals after.finder) in
    on_ok_weaker c.serve_stream.result (stream_served c.args.job.now c.args.opened (standing c.in_ok-clerk.clerk).place c.in_ok-clerk.ensures.kind c.in_ok-clerk.ensures.state_is before now c.tell_serving.ensures) c.serve_stream.ensures.served

pub returns-clause-stopped : goal.returns-clause-stopped
returns-clause-stopped g c =
    let after = c.serve_stream.new in
    let before = moment None 0 (g.S.Source.left c.args.input.now) (g.S.Source.faults c.args.input.now) (g.K.Sink.taken c.args.out.now) (g.K.Sink.faults c.args.out.now) (g.E.Sink.taken c.args.err.now) (g.E.Sink.faults c.args.err.now) (g.P.Finder.refusals c.args.finder.now) in
    let now = moment None 0 (g.S.Source.left after.input) (g.S.Source.faults after.input) (g.K.Sink.taken after.out) (g.K.Sink.faults after.out) (g.E.Sink.taken c.tell_serving.new.err) (g.E.Sink.faults c.tell_serving.new.err) (g.P.Finder.refusals after.finder) in
    IfErr-weaker c.serve_stream.result _ _ (stream_stops c.args.job.now c.args.opened (standing c.in_ok-clerk.clerk).place c.in_ok-clerk.ensures.kind c.in_ok-clerk.ensures.state_is before now c.tell_serving.ensures) c.serve_stream.ensures.stopped
