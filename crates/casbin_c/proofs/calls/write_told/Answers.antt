use Rattle.std.proofs.Common.{Option, refl, subst, sym}
use Rattle.run_status.specs.declared.stop.Stop.{Stop}
use Rattle.casbin_c.specs.Told.{WritesTold}
use Rattle.casbin_c.proofs.calls.write_told.Goals as goal

pub returns-in_default : goal.returns-in_default
returns-in_default c = subst (λ (told : Option Stop). WritesTold told c.args.line.now c.args.line.now 0) (sym c.in_default.is) (refl, refl)

pub returns : goal.returns
returns c = subst (λ (told : Option Stop). WritesTold told c.args.line.now c.write_stop.new.room c.write_stop.new.size) (sym c.in-Some.is) c.write_stop.ensures
