use Rattle.file_lint.proofs.policy.first_fault.Goals as goal

pub returns-in_default : goal.returns-in_default
returns-in_default c = (c.in_default.field-0.policy, c.in_default.ensures.found)

pub returns : goal.returns
returns c = c.in-Err.ensures.fault c.in_ok-unless_policy_want.ensures
