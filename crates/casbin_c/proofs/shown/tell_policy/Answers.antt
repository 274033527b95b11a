use Rattle.std.proofs.Common.{ℕ, List, refl, subst, sym}
use Rattle.std.specs.Prelude.{Result}
use Rattle.outside.specs.declared.fault.NoMemory.{NoMemory}
use Rattle.casbin_c.specs.Told.{WritesPolicy}
use Rattle.casbin_c.proofs.shown.tell_policy.Goals as goal

pub returns-in-Ok : goal.returns-in-Ok
returns-in-Ok c = subst (λ (shown : Result (List ℕ) NoMemory). WritesPolicy shown c.write_text.result c.args.room.now c.write_text.new.room c.args.size.now c.write_text.new.size) (sym c.in-Ok.is) c.write_text.ensures

pub returns-in-Err : goal.returns-in-Err
returns-in-Err c = subst (λ (shown : Result (List ℕ) NoMemory). WritesPolicy shown 9 c.args.room.now c.args.room.now c.args.size.now c.args.size.now) (sym c.in-Err.is) (record { code_is = refl; room = refl; size = refl })
