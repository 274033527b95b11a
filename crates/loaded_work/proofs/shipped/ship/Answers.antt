use Rattle.std.proofs.Common.{◌≡◌, List, ℕ, ap, refl, subst, ◌∙◌}
use Rattle.std.specs.Prelude.{map}
use Rattle.std.proofs.lemmas.Result.{err_from_is_err_and}
use Rattle.outside.specs.Told.{TookFront, with_back}
use Rattle.script_read.specs.Said.{seen}
use Rattle.loaded_work.specs.Shipped.{ship_text}
use Rattle.loaded_work.proofs.shipped.ship.Goals as goal

pub returns-in_err-text-clause-stopped : goal.returns-in_err-text-clause-stopped
returns-in_err-text-clause-stopped g c =
    let p = err_from_is_err_and c.from_residual.result c.from_residual.ensures.1 in
    rw (p.1, p.2) refl

pub returns-in_err-push_all-clause-stopped : goal.returns-in_err-push_all-clause-stopped
returns-in_err-push_all-clause-stopped g c =
    let p = err_from_is_err_and c.from_residual-in_err-push_all.result c.from_residual-in_err-push_all.ensures.1 in
    let told : c.bytes.result.now ≡ ship_text c.args.loaded.shapes c.args.loaded.tables.policy (map seen c.args.script.now) = c.bytes.ensures.value ∙ c.in_ok-text.ensures.shown in
    rw (p.1, p.2) (subst (λ (t : List ℕ). TookFront (g.K.Sink.taken c.args.out.now) (g.K.Sink.taken c.push_all.new.sink) t) told c.in_err-push_all.ensures.stopped, c.in_err-push_all.ensures.failed)

pub returns-clause-shown : goal.returns-clause-shown
returns-clause-shown g c =
    let told : c.bytes.result.now ≡ ship_text c.args.loaded.shapes c.args.loaded.tables.policy (map seen c.args.script.now) = c.bytes.ensures.value ∙ c.in_ok-text.ensures.shown in
    c.in_ok-push_all.ensures.took ∙ ap (with_back (g.K.Sink.taken c.args.out.now)) told
