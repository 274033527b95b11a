use Rattle.std.proofs.Common.{◌≡◌, arith}
use Rattle.row_order.proofs.room.fill_counts.Goals as goal

pub returns : goal.returns
returns c = let e : c.loop-at._at ≡ c.args.len = omega arith in rw (← e) c.loop-at.invariant.items
