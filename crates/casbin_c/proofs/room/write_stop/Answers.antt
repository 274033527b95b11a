use Rattle.std.proofs.Common.{ℕ, List, inl, inr, refl, subst, ◌∙◌}
use Rattle.casbin_c.specs.Told.{Writes}
use Rattle.casbin_c.proofs.room.write_stop.Goals as goal

pub returns-in_default : goal.returns-in_default
returns-in_default c = inr (refl, refl)

pub returns : goal.returns
returns c =
    inl (c.write_bytes-code.result, subst (λ (text : List ℕ). Writes text c.args.room.now c.write_bytes-code.new.room c.write_bytes-code.result c.write_bytes-code.new.size) (c.deref.ensures.value ∙ c.in-Ok.ensures) c.write_bytes-code.ensures)
