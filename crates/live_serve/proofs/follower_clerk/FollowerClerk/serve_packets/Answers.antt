use Rattle.std.proofs.Common.{◌≡◌, ◌++◌, ◌∷◌, [], inl, inr, refl}
use Rattle.std.specs.Prelude.{codes}
use Rattle.std.proofs.lemmas.Result.{IfErr-weaker, err_from_is_err_and, on_ok_weaker}
use Rattle.answer_lines.specs.LineText.{numbered}
use Rattle.outside.specs.Faults.{Rose}
use Rattle.live_serve.specs.Lines.{next_number}
use Rattle.live_serve.specs.Places.{follows}
use Rattle.live_serve.specs.Sayings.{no_packet, sent}
use Rattle.live_serve.specs.Standings.{follower_standing}
use Rattle.live_serve.proofs.FollowLemmas.{no_packet_step, says_packets}
use Rattle.live_serve.proofs.ServeLemmas.{step_halts, step_pushed}
use Rattle.live_serve.proofs.follower_clerk.FollowerClerk.serve_packets.Goals as goal

pub returns-in_err-read-clause-stopped : goal.returns-in_err-read-clause-stopped
returns-in_err-read-clause-stopped g c =
    let p = err_from_is_err_and c.from_residual.result c.from_residual.ensures.1 in
    rw p.1 (λ json model. inr (p.2, refl))

pub returns-in-Some-clause-served : goal.returns-in-Some-clause-served
returns-in-Some-clause-served g c =
    on_ok_weaker c.take_packets.result (λ pushed json model refusals. (sent c.in-Some.packets, says_packets json c.args.lines.now (sent c.in-Some.packets) c.requires.sent (inl (record { packets = c.in-Some.packets; are_packets = rw c.in-Some.is at c.in_ok-read.ensures; are = refl })), pushed model refusals)) c.take_packets.ensures.served

pub returns-in-Some-clause-stopped : goal.returns-in-Some-clause-stopped
returns-in-Some-clause-stopped g c =
    IfErr-weaker c.take_packets.result _ _ (λ stop halts json model. inl (sent c.in-Some.packets, says_packets json c.args.lines.now (sent c.in-Some.packets) c.requires.sent (inl (record { packets = c.in-Some.packets; are_packets = rw c.in-Some.is at c.in_ok-read.ensures; are = refl })), halts model)) c.take_packets.ensures.stopped

pub returns-in-None-clause-served : goal.returns-in-None-clause-served
returns-in-None-clause-served g c =
    let bad = rw c.in-None.is at c.in_ok-read.ensures in
    on_ok_weaker c.refuse.result (λ took json model refusals. (
      no_packet ∷ [],
      says_packets json c.args.lines.now (no_packet ∷ []) c.requires.sent (inr (record { first = bad.0; bad = bad.1; are = refl })),
      step_pushed model (follower_standing c.args.self.now) (follows c.args.self.now.follower) no_packet [] (numbered (next_number c.args.self.now.pen.number) (codes "refused: " ++ codes "packet")) (no_packet_step model c.args.self.now.follower (next_number c.args.self.now.pen.number) (numbered (next_number c.args.self.now.pen.number) (codes "refused: " ++ codes "packet")) refl) refusals refusals c.refuse.new.self.number (g.K.Sink.taken c.args.out.now) (g.K.Sink.taken c.refuse.new.out) refl c.refuse.ensures.next took,
    )) c.refuse.ensures.told

pub returns-in-None-clause-stopped : goal.returns-in-None-clause-stopped
returns-in-None-clause-stopped g c =
    let bad = rw c.in-None.is at c.in_ok-read.ensures in
    IfErr-weaker c.refuse.result _ _ (λ stop stops json model. inl (
      no_packet ∷ [],
      says_packets json c.args.lines.now (no_packet ∷ []) c.requires.sent (inr (record { first = bad.0; bad = bad.1; are = refl })),
      step_halts model (follower_standing c.args.self.now) (follows c.args.self.now.follower) no_packet [] (numbered (next_number c.args.self.now.pen.number) (codes "refused: " ++ codes "packet")) (no_packet_step model c.args.self.now.follower (next_number c.args.self.now.pen.number) (numbered (next_number c.args.self.now.pen.number) (codes "refused: " ++ codes "packet")) refl) (g.K.Sink.taken c.args.out.now) (g.K.Sink.taken c.refuse.new.out) (Rose (g.K.Sink.faults c.args.out.now) (g.K.Sink.faults c.refuse.new.out)) stop stops,
    )) c.refuse.ensures.stopped
