use Rattle.std.proofs.Common.{◌≡◌, ◌++◌, [], List, ℕ, inl, inr, refl, ap, ◌∙◌, rules, subst}
use Rattle.std.specs.Prelude.{string_bytes}
use Rattle.std.proofs.lemmas.Result.{err_from_is_err_and}
use Rattle.answer_lines.specs.LineText.{answer_text, numbered}
use Rattle.loaded_work.specs.Followed.{taken_text}
use Rattle.outside.specs.Told.{TookFront, with_back}
use Rattle.live_serve.specs.Lines.{next_number}
use Rattle.live_serve.proofs.pen.Pen.tell_taken.Goals as goal

pub returns-in_err-push_taken-clause-stopped : goal.returns-in_err-push_taken-clause-stopped
returns-in_err-push_taken-clause-stopped g c =
    let p = err_from_is_err_and c.from_residual.result c.from_residual.ensures.1 in
    rw (p.1, p.2) refl

pub returns-in_err-push_all-clause-stopped : goal.returns-in_err-push_all-clause-stopped
returns-in_err-push_all-clause-stopped g c =
    let p = err_from_is_err_and c.from_residual-in_err-push_all.result c.from_residual-in_err-push_all.ensures.1 in
    let empty : string_bytes c.clear.new.self ≡ [] = search rules in
    let text : c.as_bytes.result.now ≡ numbered (next_number c.args.self.now.number) (taken_text c.args.taken)
    = c.as_bytes.ensures.value ∙ c.in_ok-push_taken.ensures.appended ∙ ap (λ (t : List ℕ). t ++ numbered c.saturating_add-number.result (taken_text c.args.taken)) empty ∙ ap (λ (n : ℕ). numbered n (taken_text c.args.taken)) c.saturating_add-number.ensures in
    rw (p.1, p.2) (subst (λ (t : List ℕ). TookFront (g.K.Sink.taken c.args.out.now) (g.K.Sink.taken c.push_all.new.sink) t) text c.in_err-push_all.ensures.stopped, c.in_err-push_all.ensures.failed)

pub returns-clause-told : goal.returns-clause-told
returns-clause-told g c =
    let empty : string_bytes c.clear.new.self ≡ [] = search rules in
    let text : c.as_bytes.result.now ≡ numbered (next_number c.args.self.now.number) (taken_text c.args.taken)
    = c.as_bytes.ensures.value ∙ c.in_ok-push_taken.ensures.appended ∙ ap (λ (t : List ℕ). t ++ numbered c.saturating_add-number.result (taken_text c.args.taken)) empty ∙ ap (λ (n : ℕ). numbered n (taken_text c.args.taken)) c.saturating_add-number.ensures in
    c.in_ok-push_all.ensures.took ∙ ap (with_back (g.K.Sink.taken c.args.out.now)) text

pub returns-in_err-push_taken-clause-known : goal.returns-in_err-push_taken-clause-known
returns-in_err-push_taken-clause-known g c =
    let p = err_from_is_err_and c.from_residual.result c.from_residual.ensures.1 in
    rw p.1 (inl p.2)

pub returns-in_err-push_all-clause-known : goal.returns-in_err-push_all-clause-known
returns-in_err-push_all-clause-known g c =
    let p = err_from_is_err_and c.from_residual-in_err-push_all.result c.from_residual-in_err-push_all.ensures.1 in
    rw p.1 (inr c.in_ok-push_taken.ensures.known)

pub returns-clause-known : goal.returns-clause-known
returns-clause-known g c = c.in_ok-push_taken.ensures.known
