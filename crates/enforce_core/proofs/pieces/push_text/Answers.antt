use Rattle.std.proofs.Common.{◌∷◌, [], ◌++◌, List, ℕ, ap, map, refl, ◌∙◌}
use Rattle.std.proofs.lemmas.Result.{err_from_is_err_and}
use Rattle.perm_value.specs.Datum.{text}
use Rattle.perm_value.specs.Seen.{datum}
use Rattle.enforce_core.proofs.pieces.push_text.Goals as goal

pub returns-in_default-clause-stopped : goal.returns-in_default-clause-stopped
returns-in_default-clause-stopped c = (refl, c.in_default.ensures.cases.0)

pub returns-in_err-held-clause-stopped : goal.returns-in_err-held-clause-stopped
returns-in_err-held-clause-stopped c =
    let p = err_from_is_err_and c.from_residual.result c.from_residual.ensures.1 in
    rw (p.1, p.2) tt

pub returns-in_err-push_value-clause-stopped : goal.returns-in_err-push_value-clause-stopped
returns-in_err-push_value-clause-stopped c =
    let p = err_from_is_err_and c.from_residual-in_err-push_value.result c.from_residual-in_err-push_value.ensures.1 in
    rw (p.1, p.2) tt

pub returns-clause-pushed : goal.returns-clause-pushed
returns-clause-pushed c = c.in_ok-push_value.ensures ∙ ap (λ (t : List ℕ). map datum c.args.values.now.items ++ text t ∷ []) (c.in_ok-held.ensures ∙ c.in-Ok.ensures.cases.0)
