use Rattle.std.proofs.Common.{ℕ, List, Option, refl, subst, sym}
use Rattle.std.specs.Prelude.{Result}
use Rattle.outside.specs.declared.fault.NoMemory.{NoMemory}
use Rattle.casbin_c.specs.Told.{WritesRule}
use Rattle.casbin_c.proofs.shown.tell_rule.Goals as goal

pub returns-in-Ok : goal.returns-in-Ok
returns-in-Ok c = subst (λ (shown : Result (Option (List ℕ)) NoMemory). WritesRule shown c.tell_found.result c.args.room.now c.tell_found.new.room c.args.size.now c.tell_found.new.size) (sym c.in-Ok.is) c.tell_found.ensures

pub returns-in-Err : goal.returns-in-Err
returns-in-Err c = subst (λ (shown : Result (Option (List ℕ)) NoMemory). WritesRule shown 9 c.args.room.now c.args.room.now c.args.size.now c.args.size.now) (sym c.in-Err.is) (record { code_is = refl; room = refl; size = refl })
