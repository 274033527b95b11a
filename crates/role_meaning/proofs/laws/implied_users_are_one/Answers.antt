use Rattle.role_meaning.proofs.Order.{users_unique}
use Rattle.role_meaning.proofs.laws.implied_users_are_one.Goals as goal

pub returns : goal.returns
returns c = users_unique
