use Rattle.std.proofs.Common.{◌≡◌, ◌+◌, ◌∷◌, [], List, Err, ap, drop, refl, subst, take, ◌∙◌, arith, rules}
use Rattle.std.proofs.lemmas.List.{take_all}
use Rattle.model_conf.specs.ModelText.{ModelParts}
use Rattle.outside.proofs.CallerLemmas.{rose_later}
use Rattle.outside.specs.Faults.{Rose}
use Rattle.regex_gate.specs.Refusals.{Refusals}
use Rattle.log_ship.specs.declared.packet.Packet.{Packet}
use Rattle.live_serve.specs.Sayings.{Saying, packet, sent}
use Rattle.live_serve.specs.Served.{Pushed}
use Rattle.live_serve.specs.Standings.{follower_standing}
use Rattle.live_serve.proofs.SayLemmas.{sent_more, sent_parts}
use Rattle.live_serve.proofs.ServeLemmas.{done_halts, done_next, done_none, halts_since}
use Rattle.live_serve.proofs.follower_clerk.FollowerClerk.take_packets.Goals as goal

pub loop-packet-init : goal.loop-packet-init
loop-packet-init g c = (omega arith, λ model refusals. done_none model refusals (follower_standing c.args.self.now) _ _ (sent (take 0 c.as_slice-sent.result.now)) refl tt)

pub returns-in_err-take_packet-clause-stopped : goal.returns-in_err-take_packet-clause-stopped
returns-in_err-take_packet-clause-stopped g c =
    let stop : c.from_residual.result ≡ Err c.in_err-take_packet.field-0.0 = search rules in
    rw stop (λ (model : ModelParts). let refusals : Refusals = record { count = 0; patterns = [] } in done_halts model refusals (follower_standing c.args.self.now) (g.K.Sink.taken c.args.out.now) _ (sent (take c.loop-packet.packet-index c.as_slice-sent.result.now)) (sent (take (c.loop-packet.packet-index + 1) c.as_slice-sent.result.now)) (packet c.packet-item.result) (sent_more c.as_slice-sent.result.now c.loop-packet.packet-index c.packet-item.result c.loop-packet-test.true c.packet-item.is) refusals refusals (follower_standing c.loop-packet.self) (follower_standing c.take_packet.new.self) (g.K.Sink.taken c.loop-packet.out) (g.K.Sink.taken c.take_packet.new.out) _ (g.K.Sink.faults c.take_packet.new.out) (c.loop-packet.invariant.1 model refusals)
    (sent c.args.packets.now) (sent (drop (c.loop-packet.packet-index + 1) c.as_slice-sent.result.now)) (sent_parts c.as_slice-sent.result.now (c.loop-packet.packet-index + 1) ∙ ap sent c.as_slice-sent.ensures) (Rose (g.K.Sink.faults c.args.out.now) (g.K.Sink.faults c.take_packet.new.out)) c.in_err-take_packet.field-0.0
    (halts_since model (follower_standing c.loop-packet.self) (g.K.Sink.taken c.loop-packet.out) (g.K.Sink.taken c.take_packet.new.out) (Rose (g.K.Sink.faults c.loop-packet.out) (g.K.Sink.faults c.take_packet.new.out)) (Rose (g.K.Sink.faults c.args.out.now) (g.K.Sink.faults c.take_packet.new.out)) c.in_err-take_packet.field-0.0 (packet c.packet-item.result ∷ [])
    (λ rose. rose_later (g.K.Sink.faults c.args.out.now) (g.K.Sink.faults c.loop-packet.out) (g.K.Sink.faults c.take_packet.new.out) (c.loop-packet.invariant.1 model refusals).counted rose) (c.in_err-take_packet.ensures.stopped model)))

pub loop-packet-preserved : goal.loop-packet-preserved
loop-packet-preserved g c = (omega (arith, c.loop-packet.invariant.0, c.take_packet.ensures.counted), λ model refusals. done_next model refusals (follower_standing c.args.self.now) (g.K.Sink.taken c.args.out.now) _ (sent (take c.loop-packet.packet-index c.as_slice-sent.result.now)) (sent (take (c.loop-packet.packet-index + 1) c.as_slice-sent.result.now)) (packet c.packet-item.result) (sent_more c.as_slice-sent.result.now c.loop-packet.packet-index c.packet-item.result c.loop-packet-test.true c.packet-item.is) refusals refusals (follower_standing c.loop-packet.self) (follower_standing c.take_packet.new.self) (g.K.Sink.taken c.loop-packet.out) (g.K.Sink.taken c.take_packet.new.out) _ (g.K.Sink.faults c.take_packet.new.out) (c.loop-packet.invariant.1 model refusals) (c.in_ok-take_packet.ensures.served model refusals) c.take_packet.ensures.counted)

pub returns-clause-served : goal.returns-clause-served
returns-clause-served g c = λ model refusals.
    let all = ap sent (take_all c.loop-packet.packet-index c.as_slice-sent.result.now c.loop-packet-test.false ∙ c.as_slice-sent.ensures) in
    subst (λ (l : List Saying). Pushed model refusals refusals (follower_standing c.args.self.now) (follower_standing c.loop-packet.self) (g.K.Sink.taken c.args.out.now) (g.K.Sink.taken c.loop-packet.out) l) all (c.loop-packet.invariant.1 model refusals).pushed

pub returns-in_err-take_packet-clause-counted : goal.returns-in_err-take_packet-clause-counted
returns-in_err-take_packet-clause-counted g c = omega (arith, c.loop-packet.invariant.0, c.take_packet.ensures.counted)

pub returns-clause-counted : goal.returns-clause-counted
returns-clause-counted g c = c.loop-packet.invariant.0
