use Rattle.std.proofs.Common.{◌≡◌, ◌++◌, [], refl, sym, ap, subst, ◌∙◌}
use Rattle.std.specs.Prelude.{codes}
use Rattle.std.proofs.lemmas.Result.{IfErr-weaker, err_from_is_err_and, on_ok_weaker}
use Rattle.answer_lines.specs.LineText.{answer_text, numbered}
use Rattle.outside.specs.Faults.{Rose}
use Rattle.policy_state.specs.States.{State}
use Rattle.regex_gate.proofs.CallerLemmas.{used_none}
use Rattle.regex_gate.specs.Refusals.{IsUsed, Refusals}
use Rattle.script_read.specs.Said.{seen}
use Rattle.live_serve.specs.Helps.Asked.{IsAsked}
use Rattle.live_serve.specs.Lines.{next_number}
use Rattle.live_serve.specs.Places.{follows}
use Rattle.live_serve.specs.Sayings.{item}
use Rattle.live_serve.specs.Standings.{follower_standing}
use Rattle.live_serve.proofs.FollowLemmas.{asked_step, leaders_step}
use Rattle.live_serve.proofs.ServeLemmas.{asked_used, step_halts, step_pushed, took_none}
use Rattle.live_serve.proofs.follower_clerk.FollowerClerk.serve_item.Goals as goal

pub returns-in_err-answer-clause-stopped : goal.returns-in_err-answer-clause-stopped
returns-in_err-answer-clause-stopped g c =
    let p = err_from_is_err_and c.from_residual.result c.from_residual.ensures.1 in
    rw (p.1, p.2) (took_none c.args.program.now (follower_standing c.args.self.now) (g.K.Sink.taken c.args.out.now) (g.K.Sink.taken c.args.out.now) _ refl)

pub returns-in_err-answer-clause-used : goal.returns-in_err-answer-clause-used
returns-in_err-answer-clause-used g c = asked_used c.args.program.now _ _ (seen c.args.item.now) c.in_err-answer.ensures.refused

pub tell-requires : goal.tell-requires
tell-requires g c =
    let asked = rw c.in-Some.is at c.in_ok-answer.ensures.asked in
    record { printable = asked.printable }

pub returns-in-Some-clause-served : goal.returns-in-Some-clause-served
returns-in-Some-clause-served g c =
    let asked : IsAsked c.args.program.now c.args.self.now.follower.state (g.P.Finder.refusals c.args.finder.now) (g.P.Finder.refusals c.answer_query.new.finder) (seen c.args.item.now) c.in-Some.answer = subst (λ (s : State). IsAsked c.args.program.now s (g.P.Finder.refusals c.args.finder.now) (g.P.Finder.refusals c.answer_query.new.finder) (seen c.args.item.now) c.in-Some.answer) c.state-state.ensures (rw c.in-Some.is at c.in_ok-answer.ensures.asked) in
    on_ok_weaker c.tell.result (λ took. step_pushed c.args.program.now (follower_standing c.args.self.now) (follows c.args.self.now.follower) (item (seen c.args.item.now)) asked.asked.refused (numbered (next_number c.args.self.now.pen.number) (answer_text c.in-Some.answer)) (asked_step c.args.program.now c.args.self.now.follower (g.P.Finder.refusals c.args.finder.now) (g.P.Finder.refusals c.answer_query.new.finder) (next_number c.args.self.now.pen.number) (seen c.args.item.now) c.in-Some.answer (numbered (next_number c.args.self.now.pen.number) (answer_text c.in-Some.answer)) asked (rw c.in-Some.is at c.in_ok-answer.ensures.unasked) refl) (g.P.Finder.refusals c.args.finder.now) (g.P.Finder.refusals c.answer_query.new.finder) c.tell.new.self.number (g.K.Sink.taken c.args.out.now) (g.K.Sink.taken c.tell.new.out) asked.asked.logged c.tell.ensures.next took) c.tell.ensures.told

pub returns-in-Some-clause-stopped : goal.returns-in-Some-clause-stopped
returns-in-Some-clause-stopped g c =
    let asked : IsAsked c.args.program.now c.args.self.now.follower.state (g.P.Finder.refusals c.args.finder.now) (g.P.Finder.refusals c.answer_query.new.finder) (seen c.args.item.now) c.in-Some.answer = subst (λ (s : State). IsAsked c.args.program.now s (g.P.Finder.refusals c.args.finder.now) (g.P.Finder.refusals c.answer_query.new.finder) (seen c.args.item.now) c.in-Some.answer) c.state-state.ensures (rw c.in-Some.is at c.in_ok-answer.ensures.asked) in
    IfErr-weaker c.tell.result _ _ (λ stop stops. step_halts c.args.program.now (follower_standing c.args.self.now) (follows c.args.self.now.follower) (item (seen c.args.item.now)) asked.asked.refused (numbered (next_number c.args.self.now.pen.number) (answer_text c.in-Some.answer)) (asked_step c.args.program.now c.args.self.now.follower (g.P.Finder.refusals c.args.finder.now) (g.P.Finder.refusals c.answer_query.new.finder) (next_number c.args.self.now.pen.number) (seen c.args.item.now) c.in-Some.answer (numbered (next_number c.args.self.now.pen.number) (answer_text c.in-Some.answer)) asked (rw c.in-Some.is at c.in_ok-answer.ensures.unasked) refl) (g.K.Sink.taken c.args.out.now) (g.K.Sink.taken c.tell.new.out) (Rose (g.K.Sink.faults c.args.out.now) (g.K.Sink.faults c.tell.new.out)) stop stops) c.tell.ensures.stopped

pub returns-in-Some-clause-used : goal.returns-in-Some-clause-used
returns-in-Some-clause-used g c =
    let asked = rw c.in-Some.is at c.in_ok-answer.ensures.asked in
    asked_used c.args.program.now _ _ (seen c.args.item.now) asked.asked

pub returns-in-None-clause-served : goal.returns-in-None-clause-served
returns-in-None-clause-served g c =
    on_ok_weaker c.refuse.result (λ took. step_pushed c.args.program.now (follower_standing c.args.self.now) (follows c.args.self.now.follower) (item (seen c.args.item.now)) [] (numbered (next_number c.args.self.now.pen.number) (codes "refused: " ++ codes "follower")) (leaders_step c.args.program.now c.args.self.now.follower (next_number c.args.self.now.pen.number) (seen c.args.item.now) (numbered (next_number c.args.self.now.pen.number) (codes "refused: " ++ codes "follower")) (rw c.in-None.is at c.in_ok-answer.ensures.asked) refl) (g.P.Finder.refusals c.args.finder.now) (g.P.Finder.refusals c.answer_query.new.finder) c.refuse.new.self.number (g.K.Sink.taken c.args.out.now) (g.K.Sink.taken c.refuse.new.out) (rw c.in-None.is at c.in_ok-answer.ensures.unasked) c.refuse.ensures.next took) c.refuse.ensures.told

pub returns-in-None-clause-stopped : goal.returns-in-None-clause-stopped
returns-in-None-clause-stopped g c =
    IfErr-weaker c.refuse.result _ _ (λ stop stops. step_halts c.args.program.now (follower_standing c.args.self.now) (follows c.args.self.now.follower) (item (seen c.args.item.now)) [] (numbered (next_number c.args.self.now.pen.number) (codes "refused: " ++ codes "follower")) (leaders_step c.args.program.now c.args.self.now.follower (next_number c.args.self.now.pen.number) (seen c.args.item.now) (numbered (next_number c.args.self.now.pen.number) (codes "refused: " ++ codes "follower")) (rw c.in-None.is at c.in_ok-answer.ensures.asked) refl) (g.K.Sink.taken c.args.out.now) (g.K.Sink.taken c.refuse.new.out) (Rose (g.K.Sink.faults c.args.out.now) (g.K.Sink.faults c.refuse.new.out)) stop stops) c.refuse.ensures.stopped

pub returns-in-None-clause-used : goal.returns-in-None-clause-used
returns-in-None-clause-used g c = subst (λ (r : Refusals). IsUsed (g.P.Finder.refusals c.args.finder.now) r) (sym (rw c.in-None.is at c.in_ok-answer.ensures.unasked)) (used_none (g.P.Finder.refusals c.args.finder.now))
