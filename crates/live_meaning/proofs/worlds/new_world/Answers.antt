use Rattle.std.proofs.Common.{sym}
use Rattle.live_meaning.proofs.WorldLemmas.{counted_none}
use Rattle.live_meaning.proofs.worlds.new_world.Goals as goal

pub invariant_of-result : goal.invariant_of-result
invariant_of-result c = sym (counted_none c.new.result.items c.new.ensures.items)
