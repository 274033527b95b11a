use Rattle.std.proofs.Common.{◌≤◌, take}
use Rattle.model_conf.specs.ModelText.{ModelParts}
use Rattle.regex_gate.specs.Refusals.{Refusals}
use Rattle.live_serve.specs.Sayings.{sent}
use Rattle.live_serve.specs.Standings.{follower_standing}
use Rattle.live_serve.proofs.ServeLemmas.{AreDone}
use Rattle.live_serve.proofs.follower_clerk.FollowerClerk.take_packets.Given as goal

abbrev pub invariant-loop-packet : goal.invariant-loop-packet
invariant-loop-packet g l = (g.K.Sink.faults l.initial.out ≤ g.K.Sink.faults l.out) × ((model : ModelParts) (refusals : Refusals) → AreDone model refusals refusals (follower_standing l.initial.self) (follower_standing l.self) (g.K.Sink.taken l.initial.out) (g.K.Sink.taken l.out) (sent (take l.packet-index l.sent)) (g.K.Sink.faults l.initial.out) (g.K.Sink.faults l.out))
