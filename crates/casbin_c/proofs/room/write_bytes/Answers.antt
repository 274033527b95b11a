use Rattle.std.proofs.Common.{arith, inl, inr, refl}
use Rattle.casbin_c.proofs.room.write_bytes.Goals as goal

pub returns-then-bytes-room : goal.returns-then-bytes-room
returns-then-bytes-room c = record { told = refl; written = inr (record { code_is = refl; past = omega arith; room = refl }) }

pub returns : goal.returns
returns c = record { told = refl; written = inl (record { code_is = refl; within = omega arith; room = c.put_bytes.ensures }) }
