use Rattle.std.proofs.Common.{sym, ◌∙◌}
use Rattle.live_serve.specs.Places.{is_followers}
use Rattle.live_serve.specs.Standings.{standing}
use Rattle.live_serve.proofs.SayLemmas.{not_sent}
use Rattle.live_serve.proofs.clerk.Clerk.serve_lines.Goals as goal

pub serve_sent-requires-clause-sent : goal.serve_sent-requires-clause-sent
serve_sent-requires-clause-sent g c = λ lifetimes outlive. sym c.is_packet.ensures ∙ c.if-is_packet.true

pub serve_script-requires-clause-script : goal.serve_script-requires-clause-script
serve_script-requires-clause-script g c = λ lifetimes outlive. not_sent (is_followers (standing c.args.self.now).place) c.args.lines.now (sym c.is_packet.ensures ∙ c.if-is_packet.false)
