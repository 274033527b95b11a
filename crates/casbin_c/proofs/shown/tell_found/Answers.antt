use Rattle.std.proofs.Common.{ℕ, List, Ok, Option, refl, subst, sym}
use Rattle.casbin_c.specs.Told.{WritesRule}
use Rattle.casbin_c.proofs.shown.tell_found.Goals as goal

pub returns-in-Some : goal.returns-in-Some
returns-in-Some c = subst (λ (found : Option (List ℕ)). WritesRule (Ok found) c.write_text.result c.args.room.now c.write_text.new.room c.args.size.now c.write_text.new.size) (sym c.in-Some.is) c.write_text.ensures

pub returns-in-None : goal.returns-in-None
returns-in-None c = subst (λ (found : Option (List ℕ)). WritesRule (Ok found) 13 c.args.room.now c.args.room.now c.args.size.now c.args.size.now) (sym c.in-None.is) (record { code_is = refl; room = refl; size = refl })
