use Rattle.std.proofs.Common.{◌∷◌, [], inl, refl}
use Rattle.std.proofs.lemmas.Result.{IfErr-weaker, on_ok_weaker}
use Rattle.std.specs.Prelude.{codes}
use Rattle.outside.specs.Faults.{Rose}
use Rattle.regex_gate.proofs.CallerLemmas.{used_none}
use Rattle.live_serve.specs.Lines.{next_number, refused_text}
use Rattle.live_serve.specs.Places.{is_followers}
use Rattle.live_serve.specs.Sayings.{too_long}
use Rattle.live_serve.specs.Standings.{standing}
use Rattle.live_serve.proofs.PieceLemmas.{section_pushed, section_stops}
use Rattle.live_serve.proofs.ServeLemmas.{step_halts, step_told}
use Rattle.live_serve.proofs.PlaceLemmas.{long_step}
use Rattle.live_serve.proofs.clerk.Clerk.serve_section.Goals as goal

pub returns-in-TooLong-clause-served : goal.returns-in-TooLong-clause-served
returns-in-TooLong-clause-served g c =
    rw c.in-TooLong.is (on_ok_weaker c.refuse.result (λ took. (too_long ∷ [], refl, step_told c.args.program.now (standing c.args.self.now) (standing c.args.self.now).place too_long [] (refused_text (next_number (standing c.args.self.now).number) (codes "too long")) (long_step c.args.program.now (standing c.args.self.now).place (next_number (standing c.args.self.now).number) (refused_text (next_number (standing c.args.self.now).number) (codes "too long")) refl) (g.P.Finder.refusals c.args.finder.now) (g.P.Finder.refusals c.args.finder.now) (standing c.refuse.new.self) (g.K.Sink.taken c.args.out.now) (g.K.Sink.taken c.refuse.new.out) refl c.refuse.ensures.place c.refuse.ensures.next took)) c.refuse.ensures.told)

pub returns-in-TooLong-clause-stopped : goal.returns-in-TooLong-clause-stopped
returns-in-TooLong-clause-stopped g c =
    rw c.in-TooLong.is (IfErr-weaker c.refuse.result _ _ (λ stop stops. inl (too_long ∷ [], refl, step_halts c.args.program.now (standing c.args.self.now) (standing c.args.self.now).place too_long [] (refused_text (next_number (standing c.args.self.now).number) (codes "too long")) (long_step c.args.program.now (standing c.args.self.now).place (next_number (standing c.args.self.now).number) (refused_text (next_number (standing c.args.self.now).number) (codes "too long")) refl) (g.K.Sink.taken c.args.out.now) (g.K.Sink.taken c.refuse.new.out) (Rose (g.K.Sink.faults c.args.out.now) (g.K.Sink.faults c.refuse.new.out)) stop stops)) c.refuse.ensures.stopped)

pub returns-in-TooLong-clause-used : goal.returns-in-TooLong-clause-used
returns-in-TooLong-clause-used g c = used_none (g.P.Finder.refusals c.args.finder.now)

pub returns-in-Lines-clause-served : goal.returns-in-Lines-clause-served
returns-in-Lines-clause-served g c =
    rw c.in-Lines.is (on_ok_weaker c.serve_lines.result (section_pushed c.args.json (is_followers (standing c.args.self.now).place) c.deref.result.now c.in-Lines.lines.items c.deref.ensures.value c.args.program.now (g.P.Finder.refusals c.args.finder.now) (g.P.Finder.refusals c.serve_lines.new.finder) (standing c.args.self.now) (standing c.serve_lines.new.self) (g.K.Sink.taken c.args.out.now) (g.K.Sink.taken c.serve_lines.new.out)) c.serve_lines.ensures.served)

pub returns-in-Lines-clause-stopped : goal.returns-in-Lines-clause-stopped
returns-in-Lines-clause-stopped g c =
    rw c.in-Lines.is (IfErr-weaker c.serve_lines.result _ _ (section_stops c.args.json (is_followers (standing c.args.self.now).place) c.deref.result.now c.in-Lines.lines.items c.deref.ensures.value c.args.program.now (standing c.args.self.now) (g.K.Sink.taken c.args.out.now) (g.K.Sink.taken c.serve_lines.new.out) (Rose (g.K.Sink.faults c.args.out.now) (g.K.Sink.faults c.serve_lines.new.out))) c.serve_lines.ensures.stopped)
