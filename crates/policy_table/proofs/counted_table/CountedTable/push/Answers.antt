use Rattle.std.proofs.Common.{arith}
use Rattle.policy_table.specs.Limits.{domains_of}
use Rattle.policy_table.proofs.CountedLemmas.{can_count, counted_pushed}
use Rattle.policy_table.proofs.counted_table.CountedTable.push.Goals as goal

pub add_if-requires-clause-few : goal.add_if-requires-clause-few
add_if-requires-clause-few c = λ counted. can_count c.self.inside.table.rules _ (c.self.invariant counted) (omega (arith, c.len-few.ensures.value, c.len-few.ensures.few))

pub invariant_of-self : goal.invariant_of-self
invariant_of-self c =
    λ counted. counted_pushed c.args.ranked c.self.inside.counted c.args.rule c.args.domain c.self.inside.table.rules _ _ counted c.requires.domain c.push.ensures.rules
    (c.add_if.ensures.counted (domains_of c.self.inside.table.rules) (c.self.invariant counted))
