use Rattle.std.proofs.Common.{take}
use Rattle.policy_table.specs.Helps.Domains.{AreCounted}
use Rattle.policy_table.specs.Helps.Moves.{moved_domains}
use Rattle.policy_table.proofs.moved.moved_domains.Given as goal

abbrev pub invariant-loop-change : goal.invariant-loop-change
invariant-loop-change l = AreCounted (moved_domains l.way l.table (take l.change-index l.changes)) l.domains
