use Rattle.std.proofs.Common.{refl}
use Rattle.matcher_meaning.proofs.WorkedLemmas.{a_truth, another_kind, no_attribute, no_rule}
use Rattle.matcher_meaning.proofs.WorkedOrder.{user_before_role}
use Rattle.matcher_meaning.proofs.worked.worked_cases.Goals as goal

pub returns-clause-truth : goal.returns-clause-truth
returns-clause-truth c = a_truth

pub returns-clause-other_kind : goal.returns-clause-other_kind
returns-clause-other_kind c = another_kind

pub returns-clause-no_attribute : goal.returns-clause-no_attribute
returns-clause-no_attribute c = no_attribute

pub returns-clause-no_rule : goal.returns-clause-no_rule
returns-clause-no_rule c = no_rule

pub returns-clause-order : goal.returns-clause-order
returns-clause-order c row other third fourth = refl

pub returns-clause-user_before_role : goal.returns-clause-user_before_role
returns-clause-user_before_role c = user_before_role
