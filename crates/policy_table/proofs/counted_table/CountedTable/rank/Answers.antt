use Rattle.policy_table.proofs.RankedLemmas.{counted_ranked}
use Rattle.policy_table.proofs.counted_table.CountedTable.rank.Goals as goal

pub invariant_of-self : goal.invariant_of-self
invariant_of-self c = λ counted. counted_ranked c.rank.result c.self.inside.table.rules c.rank.new.self.rules c.self.inside.domains c.rank.ensures.rules c.rank.ensures.refused (c.self.invariant counted)
