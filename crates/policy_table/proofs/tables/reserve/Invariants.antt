use Rattle.policy_table.proofs.RoomLemmas.{HaveRoom}
use Rattle.policy_table.proofs.tables.reserve.Given as goal

abbrev pub invariant-loop-at : goal.invariant-loop-at
invariant-loop-at l = HaveRoom l.fn.tables l.fn.prepared l.at l.tables
