use Rattle.std.proofs.Common.{ap}
use Rattle.std.proofs.lemmas.Result.{IfErr-weaker, on_ok_weaker}
use Rattle.regex_gate.proofs.CallerLemmas.{used_none}
use Rattle.live_serve.specs.Places.{is_followers}
use Rattle.live_serve.specs.Sayings.{is_sent}
use Rattle.live_serve.specs.Standings.{standing}
use Rattle.live_serve.specs.declared.clerk.Clerk.{Clerk}
use Rattle.live_serve.proofs.clerk.Clerk.serve_sent.Goals as goal

pub serve_script-requires-clause-script : goal.serve_script-requires-clause-script
serve_script-requires-clause-script g c = λ lifetimes outlive. ap (λ (clerk : Clerk). is_sent (is_followers (standing clerk).place) c.args.lines.now) c.in-Desk.is

pub returns-in-Follower-clause-served : goal.returns-in-Follower-clause-served
returns-in-Follower-clause-served g c = rw c.in-Follower.is (on_ok_weaker c.serve_packets.result (λ served. served c.args.json c.args.program.now (g.P.Finder.refusals c.args.finder.now)) c.serve_packets.ensures.served)

pub returns-in-Follower-clause-stopped : goal.returns-in-Follower-clause-stopped
returns-in-Follower-clause-stopped g c = rw c.in-Follower.is (IfErr-weaker c.serve_packets.result _ _ (λ stop stops. stops c.args.json c.args.program.now) c.serve_packets.ensures.stopped)

pub returns-in-Follower-clause-used : goal.returns-in-Follower-clause-used
returns-in-Follower-clause-used g c = used_none (g.P.Finder.refusals c.args.finder.now)
