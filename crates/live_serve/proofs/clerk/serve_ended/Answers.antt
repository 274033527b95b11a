use Rattle.std.proofs.Common.{ap, refl}
use Rattle.std.proofs.lemmas.Result.{IfErr-weaker, on_ok_weaker}
use Rattle.item_stream.specs.Seen.{seen, seen_option}
use Rattle.outside.specs.Faults.{Rose}
use Rattle.regex_gate.proofs.CallerLemmas.{used_none}
use Rattle.live_serve.specs.Places.{is_followers}
use Rattle.live_serve.specs.Standings.{standing}
use Rattle.live_serve.proofs.PieceLemmas.{ended_answered, ended_halts, ended_none}
use Rattle.live_serve.proofs.clerk.serve_ended.Goals as goal

pub returns-in-None-clause-served : goal.returns-in-None-clause-served
returns-in-None-clause-served g c = ended_none c.args.json (is_followers (standing c.args.clerk.now).place) c.args.program.now (standing c.args.clerk.now) (standing c.args.clerk.now) (seen_option c.args.section) (g.K.Sink.taken c.args.out.now) (g.K.Sink.taken c.args.out.now) (g.P.Finder.refusals c.args.finder.now) refl refl (ap seen_option c.in-None.is)

pub returns-in-None-clause-used : goal.returns-in-None-clause-used
returns-in-None-clause-used g c = used_none (g.P.Finder.refusals c.args.finder.now)

pub returns-in-Some-clause-served : goal.returns-in-Some-clause-served
returns-in-Some-clause-served g c =
    on_ok_weaker c.serve_section.result (ended_answered c.args.json (is_followers (standing c.args.clerk.now).place) c.args.program.now (standing c.args.clerk.now) (standing c.serve_section.new.self) (seen_option c.args.section) (g.K.Sink.taken c.args.out.now) (g.K.Sink.taken c.serve_section.new.out) (g.P.Finder.refusals c.args.finder.now) (g.P.Finder.refusals c.serve_section.new.finder) (seen c.in-Some.section) (ap seen_option c.in-Some.is)) c.serve_section.ensures.served

pub returns-in-Some-clause-stopped : goal.returns-in-Some-clause-stopped
returns-in-Some-clause-stopped g c =
    IfErr-weaker c.serve_section.result _ _ (ended_halts c.args.json (is_followers (standing c.args.clerk.now).place) c.args.program.now (standing c.args.clerk.now) (seen_option c.args.section) (g.K.Sink.taken c.args.out.now) (g.K.Sink.taken c.serve_section.new.out) (Rose (g.K.Sink.faults c.args.out.now) (g.K.Sink.faults c.serve_section.new.out)) (seen c.in-Some.section) (ap seen_option c.in-Some.is)) c.serve_section.ensures.stopped
