use Rattle.std.proofs.Common.{ℕ, List, subst}
use Rattle.casbin_c.specs.Told.{Writes}
use Rattle.casbin_c.proofs.room.write_text.Goals as goal

pub returns : goal.returns
returns c = subst (λ (text : List ℕ). Writes text c.args.room.now c.write_bytes.new.room c.write_bytes.result c.write_bytes.new.size) c.bytes.ensures.value c.write_bytes.ensures
