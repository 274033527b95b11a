use Rattle.policy_table.proofs.RoomLemmas.{empty_tables}
use Rattle.policy_table.proofs.tables.no_tables.Goals as goal

pub invariant_of-result : goal.invariant_of-result
invariant_of-result c = empty_tables _ c.empty.result c.empty.ensures.rules c.empty.ensures.counted
