use Rattle.policy_table.proofs.TableLemmas.{found_counts}
use Rattle.policy_table.proofs.tables.Tables.domain_count.Goals as goal

pub count-requires : goal.count-requires
count-requires c = found_counts c.args.number c.in-Some.at _ c.index-self-at.result c.self.invariant c.place.ensures c.in-Some.is
