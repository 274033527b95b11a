use Rattle.std.proofs.Common.{sym, subst}
use Rattle.std.specs.Prelude.{Bool}
use Rattle.live_serve.specs.Standings.{standing}
use Rattle.serve_run.specs.Helps.ServedStreams.{IsReady}
use Rattle.serve_run.proofs.ServeLemmas.{desk_ready, follower_ready}
use Rattle.serve_run.proofs.service.clerk_for.Goals as goal

pub returns-then-follow : goal.returns-then-follow
returns-then-follow c =
    subst (λ (f : Bool). IsReady c.args.state f (standing c.over_follower.result)) (sym c.if-follow.true)
    (follower_ready (standing c.over_follower.result) c.open-follower.result c.args.state c.over_follower.ensures c.requires c.open-follower.ensures.state c.open-follower.ensures.waiting)

pub returns : goal.returns
returns c =
    subst (λ (f : Bool). IsReady c.args.state f (standing c.over_desk.result)) (sym c.if-follow.false)
    (desk_ready (standing c.over_desk.result) c.in_ok-desk.desk c.args.state c.over_desk.ensures c.requires c.in_ok-desk.ensures.state c.in_ok-desk.ensures.pending c.in_ok-desk.ensures.kept c.in_ok-desk.ensures.floor)
