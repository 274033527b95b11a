use Rattle.std.proofs.Common.{◌∷◌, [], inl, inr, refl, ap}
use Rattle.std.proofs.lemmas.Result.{IfErr-weaker, err_from_is_err_and, on_ok_weaker}
use Rattle.std.specs.Prelude.{map}
use Rattle.outside.specs.Faults.{Rose}
use Rattle.regex_gate.proofs.CallerLemmas.{used_none}
use Rattle.script_read.specs.Said.{seen}
use Rattle.live_serve.specs.Lines.{cause_text, next_number, refused_text}
use Rattle.live_serve.specs.Places.{is_followers}
use Rattle.live_serve.specs.Sayings.{fault, said}
use Rattle.live_serve.specs.Standings.{standing}
use Rattle.live_serve.proofs.ServeLemmas.{step_halts, step_told}
use Rattle.live_serve.proofs.PlaceLemmas.{fault_step}
use Rattle.live_serve.proofs.SayLemmas.{says_script}
use Rattle.live_serve.proofs.clerk.Clerk.serve_script.Goals as goal

pub returns-in_err-read-clause-stopped : goal.returns-in_err-read-clause-stopped
returns-in_err-read-clause-stopped g c =
    let p = err_from_is_err_and c.from_residual.result c.from_residual.ensures.1 in
    rw p.1 (inr (p.2, refl))

pub returns-in_err-read-clause-used : goal.returns-in_err-read-clause-used
returns-in_err-read-clause-used g c = used_none (g.P.Finder.refusals c.args.finder.now)

pub serve_items-requires-clause-have_names : goal.serve_items-requires-clause-have_names
serve_items-requires-clause-have_names g c = λ lifetimes outlive. rw c.in-Ok.is at c.in_ok-read.ensures.have_names

pub returns-in-Ok-clause-served : goal.returns-in-Ok-clause-served
returns-in-Ok-clause-served g c =
    on_ok_weaker c.serve_items.result (λ pushed. (said (map seen c.in-Ok.script), says_script c.args.json (is_followers (standing c.args.self.now).place) c.args.lines.now (said (map seen c.in-Ok.script)) c.requires.script (inl (record { items = map seen c.in-Ok.script; script = rw c.in-Ok.is at c.in_ok-read.ensures.read; are = refl })), pushed)) c.serve_items.ensures.served

pub returns-in-Ok-clause-stopped : goal.returns-in-Ok-clause-stopped
returns-in-Ok-clause-stopped g c =
    IfErr-weaker c.serve_items.result _ _ (λ stop halts. inl (said (map seen c.in-Ok.script), says_script c.args.json (is_followers (standing c.args.self.now).place) c.args.lines.now (said (map seen c.in-Ok.script)) c.requires.script (inl (record { items = map seen c.in-Ok.script; script = rw c.in-Ok.is at c.in_ok-read.ensures.read; are = refl })), halts)) c.serve_items.ensures.stopped

pub returns-in-Err-clause-served : goal.returns-in-Err-clause-served
returns-in-Err-clause-served g c =
    let text = ap (refused_text (next_number (standing c.args.self.now).number)) c.cause_text.ensures in
    on_ok_weaker c.refuse.result (λ took. (fault c.in-Err.fault ∷ [], says_script c.args.json (is_followers (standing c.args.self.now).place) c.args.lines.now (fault c.in-Err.fault ∷ []) c.requires.script (inr (record { first = c.in-Err.fault; bad = rw c.in-Err.is at c.in_ok-read.ensures.read; are = refl })), step_told c.args.program.now (standing c.args.self.now) (standing c.args.self.now).place (fault c.in-Err.fault) [] (refused_text (next_number (standing c.args.self.now).number) c.cause_text.result.now) (fault_step c.args.program.now (standing c.args.self.now).place (next_number (standing c.args.self.now).number) c.in-Err.fault (refused_text (next_number (standing c.args.self.now).number) c.cause_text.result.now) text) (g.P.Finder.refusals c.args.finder.now) (g.P.Finder.refusals c.args.finder.now) (standing c.refuse.new.self) (g.K.Sink.taken c.args.out.now) (g.K.Sink.taken c.refuse.new.out) refl c.refuse.ensures.place c.refuse.ensures.next took)) c.refuse.ensures.told

pub returns-in-Err-clause-stopped : goal.returns-in-Err-clause-stopped
returns-in-Err-clause-stopped g c =
    let text = ap (refused_text (next_number (standing c.args.self.now).number)) c.cause_text.ensures in
    IfErr-weaker c.refuse.result _ _ (λ stop stops. inl (fault c.in-Err.fault ∷ [], says_script c.args.json (is_followers (standing c.args.self.now).place) c.args.lines.now (fault c.in-Err.fault ∷ []) c.requires.script (inr (record { first = c.in-Err.fault; bad = rw c.in-Err.is at c.in_ok-read.ensures.read; are = refl })), step_halts c.args.program.now (standing c.args.self.now) (standing c.args.self.now).place (fault c.in-Err.fault) [] (refused_text (next_number (standing c.args.self.now).number) c.cause_text.result.now) (fault_step c.args.program.now (standing c.args.self.now).place (next_number (standing c.args.self.now).number) c.in-Err.fault (refused_text (next_number (standing c.args.self.now).number) c.cause_text.result.now) text) (g.K.Sink.taken c.args.out.now) (g.K.Sink.taken c.refuse.new.out) (Rose (g.K.Sink.faults c.args.out.now) (g.K.Sink.faults c.refuse.new.out)) stop stops)) c.refuse.ensures.stopped

pub returns-in-Err-clause-used : goal.returns-in-Err-clause-used
returns-in-Err-clause-used g c = used_none (g.P.Finder.refusals c.args.finder.now)
