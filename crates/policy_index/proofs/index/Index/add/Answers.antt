use Rattle.std.proofs.Common.{arith, refl}
use Rattle.policy_index.proofs.CommitLemmas.{kept_copied}
use Rattle.policy_index.proofs.index.Index.add.Goals as goal

pub invariant_of-self-2 : goal.invariant_of-self-2
invariant_of-self-2 c =
    kept_copied c.self.inside.marks.items c.reserve.new.self.items c.self.inside.slots c.reserve-3.new.self c.self.inside.fronts c.self.inside.fronts c.self.inside.places.items c.reserve-2.new.self.items c.reserve.ensures.items c.reserve-3.ensures.slots refl
    c.reserve-2.ensures.items c.self.invariant

pub push-requires-clause-spare : goal.push-requires-clause-spare
push-requires-clause-spare c = omega (arith, c.in_ok-reserve.ensures.ok, c.in_ok-reserve-2.ensures.ok)
