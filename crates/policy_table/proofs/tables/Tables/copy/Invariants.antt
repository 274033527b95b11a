use Rattle.policy_table.proofs.RoomLemmas.{AreCopied}
use Rattle.policy_table.proofs.tables.Tables.copy.Given as goal

abbrev pub invariant-loop-at : goal.invariant-loop-at
invariant-loop-at l = AreCopied l.self-inside.tables l.at l.tables
