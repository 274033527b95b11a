use Rattle.rbac_query.proofs.CountLemmas.{permissions_one}
use Rattle.rbac_query.proofs.laws.permissions_are_one.Goals as goal

pub returns : goal.returns
returns c = permissions_one
