use Rattle.std.proofs.Common.{Bor}
use Rattle.policy_table.specs.Tables.{Fields}
use Rattle.edit_calls.proofs.told.tell_rule.Goals as goal

-- a reference to these fields
abbrev to : Fields → Bor Fields
to fields = record { ref_ptr = (0, 0); now = fields }

pub returns-in-Some-clause-told : goal.returns-in-Some-clause-told
returns-in-Some-clause-told c = λ other fields. c.in_ok-stood.ensures.updates.0 (other, to fields)

pub returns-in-None-clause-told : goal.returns-in-None-clause-told
returns-in-None-clause-told c = λ other fields. c.in_ok-stood.ensures.updates.0 (other, to fields)
