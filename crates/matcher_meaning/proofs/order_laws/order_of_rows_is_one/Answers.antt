use Rattle.matcher_meaning.proofs.OrderLemmas.{order_moves}
use Rattle.matcher_meaning.proofs.VerdictLemmas.{order_one, order_some}
use Rattle.matcher_meaning.proofs.order_laws.order_of_rows_is_one.Goals as goal

pub returns-clause-there : goal.returns-clause-there
returns-clause-there c case effect table = order_some c.depth_is_one.ensures.there case effect table

pub returns-clause-unique : goal.returns-clause-unique
returns-clause-unique c case effect table judged other p q = order_one c.depth_is_one.ensures.unique case effect table judged other p q

pub returns-clause-moved : goal.returns-clause-moved
returns-clause-moved c case effect table judged p = order_moves case effect table judged p
