use Rattle.std.proofs.Common.{take}
use Rattle.std.specs.Prelude.{string_bytes}
use Rattle.loaded_work.proofs.FollowLemmas.{AreTakenSo}
use Rattle.loaded_work.proofs.followed.take_all.Given as goal

abbrev pub invariant-loop-packet : goal.invariant-loop-packet
invariant-loop-packet l = AreTakenSo l.initial.follower (take l.packet-index l.sent) l.number (string_bytes l.text) l.follower
