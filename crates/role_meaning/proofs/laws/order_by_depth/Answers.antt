use Rattle.role_meaning.proofs.Order.{ordered_by_depth}
use Rattle.role_meaning.proofs.laws.order_by_depth.Goals as goal

pub returns : goal.returns
returns c = ordered_by_depth
