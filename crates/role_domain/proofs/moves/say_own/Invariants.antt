use Rattle.std.proofs.Common.{◌≡◌, Bool, take}
use Rattle.policy_table.specs.Changes.{own}
use Rattle.policy_table.specs.Tables.{Fields}
use Rattle.role_domain.specs.Helps.Turns.{said_of, stands_after}
use Rattle.role_domain.proofs.moves.say_own.Given as goal

abbrev pub invariant-loop-change : goal.invariant-loop-change
invariant-loop-change l = (rule : Fields) (stood : Bool) → said_of l.said.entries rule stood ≡ stands_after (own l.table (take l.change-index l.changes)) rule (said_of l.initial.said.entries rule stood)
