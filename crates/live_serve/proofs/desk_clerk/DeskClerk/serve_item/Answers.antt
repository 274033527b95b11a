use Rattle.std.proofs.Common.{refl}
use Rattle.std.proofs.lemmas.Result.{IfErr-weaker, err_from_is_err_and, on_ok_weaker}
use Rattle.answer_lines.specs.LineText.{answer_text, numbered}
use Rattle.outside.specs.Faults.{Rose}
use Rattle.script_read.specs.Said.{seen}
use Rattle.session_meaning.specs.Versions.{out, published}
use Rattle.live_serve.specs.Lines.{next_number}
use Rattle.live_serve.specs.Places.{at_desk}
use Rattle.live_serve.specs.Sayings.{item}
use Rattle.live_serve.specs.Standings.{desk_standing}
use Rattle.live_serve.proofs.DeskLemmas.{item_step}
use Rattle.live_serve.proofs.ServeLemmas.{asked_used, step_halts, step_pushed, took_none}
use Rattle.live_serve.proofs.desk_clerk.DeskClerk.serve_item.Goals as goal

pub returns-in_err-answer-clause-stopped : goal.returns-in_err-answer-clause-stopped
returns-in_err-answer-clause-stopped g c =
    let p = err_from_is_err_and c.from_residual.result c.from_residual.ensures.1 in
    rw (p.1, p.2) (took_none c.args.program.now (desk_standing c.args.self.now) (g.K.Sink.taken c.args.out.now) (g.K.Sink.taken c.args.out.now) _ refl)

pub returns-in_err-answer-clause-used : goal.returns-in_err-answer-clause-used
returns-in_err-answer-clause-used g c = asked_used c.args.program.now _ _ (seen c.args.item.now) c.in_err-answer.ensures.refused

pub tell-requires : goal.tell-requires
tell-requires g c =
    let somewhere = c.requires.stands in
    record { printable = c.replies_are_printable.ensures.printable c.args.program.now c.args.self.now.desk.state.shapes somewhere.0 c.in_ok-answer.ensures.step.asked.refused somewhere.1 (out c.args.self.now.desk.state.shapes somewhere.0 somewhere.1) (published c.args.self.now.desk.state.shapes somewhere.0 somewhere.1) (seen c.args.item.now) c.in_ok-answer.answer c.requires.has_name (c.in_ok-answer.ensures.step.replied somewhere.0 somewhere.1 somewhere.2) }

pub returns-clause-served : goal.returns-clause-served
returns-clause-served g c = on_ok_weaker c.tell.result (λ took. step_pushed c.args.program.now (desk_standing c.args.self.now) (at_desk c.answer_item.new.desk) (item (seen c.args.item.now)) c.in_ok-answer.ensures.step.asked.refused (numbered (next_number c.args.self.now.pen.number) (answer_text c.in_ok-answer.answer)) (item_step c.args.program.now (g.P.Finder.refusals c.args.finder.now) (g.P.Finder.refusals c.answer_item.new.finder) c.args.self.now.desk c.answer_item.new.desk (next_number c.args.self.now.pen.number) (seen c.args.item.now) c.in_ok-answer.answer (numbered (next_number c.args.self.now.pen.number) (answer_text c.in_ok-answer.answer)) c.in_ok-answer.ensures.step c.answer_item.ensures.shapes refl) (g.P.Finder.refusals c.args.finder.now) (g.P.Finder.refusals c.answer_item.new.finder) c.tell.new.self.number (g.K.Sink.taken c.args.out.now) (g.K.Sink.taken c.tell.new.out) c.in_ok-answer.ensures.step.asked.logged c.tell.ensures.next took) c.tell.ensures.told

pub returns-clause-stopped : goal.returns-clause-stopped
returns-clause-stopped g c = IfErr-weaker c.tell.result _ _ (λ stop stops. step_halts c.args.program.now (desk_standing c.args.self.now) (at_desk c.answer_item.new.desk) (item (seen c.args.item.now)) c.in_ok-answer.ensures.step.asked.refused (numbered (next_number c.args.self.now.pen.number) (answer_text c.in_ok-answer.answer)) (item_step c.args.program.now (g.P.Finder.refusals c.args.finder.now) (g.P.Finder.refusals c.answer_item.new.finder) c.args.self.now.desk c.answer_item.new.desk (next_number c.args.self.now.pen.number) (seen c.args.item.now) c.in_ok-answer.answer (numbered (next_number c.args.self.now.pen.number) (answer_text c.in_ok-answer.answer)) c.in_ok-answer.ensures.step c.answer_item.ensures.shapes refl) (g.K.Sink.taken c.args.out.now) (g.K.Sink.taken c.tell.new.out) (Rose (g.K.Sink.faults c.args.out.now) (g.K.Sink.faults c.tell.new.out)) stop stops) c.tell.ensures.stopped

pub returns-clause-used : goal.returns-clause-used
returns-clause-used g c = asked_used c.args.program.now _ _ (seen c.args.item.now) c.in_ok-answer.ensures.step.asked
