use Rattle.std.proofs.Common.{Option, subst}
use Rattle.run_status.specs.declared.stop.Stop.{Stop}
use Rattle.casbin_c.specs.Told.{WritesTold}
use Rattle.casbin_c.proofs.calls.tell_stop.Goals as goal

pub returns-clause-written : goal.returns-clause-written
returns-clause-written c = subst (λ (told : Option Stop). WritesTold told c.args.line.now c.write_told.new.line c.write_told.new.size) c.told_stop.ensures c.write_told.ensures
