use Rattle.std.proofs.Common.{subst, sym}
use Rattle.std.proofs.lemmas.Result.{err_from_is_err_and}
use Rattle.enforce_core.specs.Opened.{Given, IsOpenedFrom}
use Rattle.casbin_c.proofs.enforcers.open_box.Goals as goal

pub returns-in_err-made-clause-stopped : goal.returns-in_err-made-clause-stopped
returns-in_err-made-clause-stopped c =
    let p = err_from_is_err_and c.from_residual-in_err-made.result c.from_residual-in_err-made.ensures.1 in
    rw (p.1, p.2) tt

pub returns-clause-opened : goal.returns-clause-opened
returns-clause-opened c =
    let given : Given = record { model = c.args.model.now; policy = c.args.policy.now; options = c.args.options.now } in
    subst (IsOpenedFrom given) (sym c.in_ok-made.ensures) c.in_ok-enforcer.ensures.opened
