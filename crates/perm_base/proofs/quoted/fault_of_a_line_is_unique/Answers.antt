use Rattle.perm_base.proofs.FieldLineLemmas.{IsBadAt-once, IsFault-once}
use Rattle.perm_base.proofs.quoted.fault_of_a_line_is_unique.Goals as goal

pub returns-clause-fault : goal.returns-clause-fault
returns-clause-fault c = IsFault-once

pub returns-clause-place : goal.returns-clause-place
returns-clause-place c = IsBadAt-once
