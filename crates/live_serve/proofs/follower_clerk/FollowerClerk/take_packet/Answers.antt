use Rattle.std.proofs.Common.{◌≡◌, ◌∷◌, [], refl}
use Rattle.answer_lines.specs.LineText.{numbered}
use Rattle.loaded_work.specs.Followed.{taken_text}
use Rattle.outside.specs.Faults.{Rose}
use Rattle.live_serve.specs.Lines.{next_number}
use Rattle.live_serve.specs.Standings.{follower_standing}
use Rattle.live_serve.proofs.TakeLemmas.{packet_halts, packet_pushed}
use Rattle.live_serve.proofs.follower_clerk.FollowerClerk.take_packet.Goals as goal

pub returns-clause-served : goal.returns-clause-served
returns-clause-served g c =
    packet_pushed (follower_standing c.args.self.now) c.args.self.now.follower c.take-taken.new.self refl c.args.sent.now c.take-taken.result c.take-taken.ensures.taken (c.texts_read_in_one_way.ensures.some c.args.sent.now.text) c.tell_taken.new.self.number (g.K.Sink.taken c.args.out.now) (g.K.Sink.taken c.tell_taken.new.out) c.tell_taken.ensures.next c.tell_taken.result c.tell_taken.ensures.known c.tell_taken.ensures.told

pub returns-clause-stopped : goal.returns-clause-stopped
returns-clause-stopped g c =
    packet_halts (follower_standing c.args.self.now) c.args.self.now.follower c.take-taken.new.self refl c.args.sent.now c.take-taken.result c.take-taken.ensures.taken (c.texts_read_in_one_way.ensures.some c.args.sent.now.text) (g.K.Sink.taken c.args.out.now) (g.K.Sink.taken c.tell_taken.new.out) (Rose (g.K.Sink.faults c.args.out.now) (g.K.Sink.faults c.tell_taken.new.out)) c.tell_taken.result c.tell_taken.ensures.known c.tell_taken.ensures.stopped
