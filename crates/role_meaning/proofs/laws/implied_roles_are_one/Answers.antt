use Rattle.role_meaning.proofs.Order.{implied_unique}
use Rattle.role_meaning.proofs.laws.implied_roles_are_one.Goals as goal

pub returns : goal.returns
returns c = implied_unique
