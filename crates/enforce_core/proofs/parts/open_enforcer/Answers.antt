use Rattle.std.proofs.lemmas.Result.{err_from_is_err_and}
use Rattle.enforce_core.specs.Opened.{Given}
use Rattle.enforce_core.proofs.OpeningLemmas.{enforcer_from}
use Rattle.enforce_core.proofs.parts.open_enforcer.Goals as goal

pub owning-requires : goal.owning-requires
owning-requires c = c.in_ok-parts.ensures.suits

pub returns-in_err-enforcer-clause-stopped : goal.returns-in_err-enforcer-clause-stopped
returns-in_err-enforcer-clause-stopped c =
    let p = err_from_is_err_and c.from_residual-in_err-enforcer.result c.from_residual-in_err-enforcer.ensures.1 in
    rw (p.1, p.2) tt

pub returns-clause-opened : goal.returns-clause-opened
returns-clause-opened c =
    let given : Given = record { model = c.args.model.now; policy = c.args.policy.now; options = c.args.options.now } in
    enforcer_from given c.in_ok-parts.parts.0 c.in_ok-parts.parts.1 c.in_ok-enforcer.enforcer c.in_ok-parts.ensures.opened c.in_ok-enforcer.ensures
