use Rattle.std.proofs.Common.{◌≡◌, Bool, take}
use Rattle.policy_table.specs.Changes.{flat, own}
use Rattle.policy_table.specs.Tables.{Fields}
use Rattle.role_domain.specs.Helps.Turns.{said_of, stands_after}
use Rattle.role_domain.proofs.moves.said.Given as goal

abbrev pub invariant-loop-edit : goal.invariant-loop-edit
invariant-loop-edit l = (rule : Fields) (stood : Bool) → said_of l.said.entries rule stood ≡ stands_after (own l.table (flat (take l.edit-index l.edits))) rule stood
