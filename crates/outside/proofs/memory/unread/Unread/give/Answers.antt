use Rattle.std.proofs.Common.{arith, length, ◌≡◌}
use Rattle.std.proofs.lemmas.List.{length-take}
use Rattle.outside.proofs.PieceLemmas.{given_is}
use Rattle.outside.proofs.memory.unread.Unread.give.Goals as goal

pub returns-clause-given : goal.returns-clause-given
returns-clause-given c =
    let len : length c.copy_from_slice.new.self ≡ c.min-count.result = omega (arith, length-take c.min-count.result c.args.buf.now) in
    rw (← c.self.view_is) (given_is c.self.inside.bytes.items c.copy_from_slice.new.self c.args.buf.now c.self.inside.at c.min-count.result (rw (← c.deref.ensures.value) c.copy_from_slice.ensures.after) len)
