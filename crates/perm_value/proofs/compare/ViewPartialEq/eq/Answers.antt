use Rattle.perm_value.specs.Helps.EqualityLaws.{equal_views}
use Rattle.perm_value.proofs.compare.ViewPartialEq.eq.Goals as goal

pub returns-clause-decides : goal.returns-clause-decides
returns-clause-decides c = equal_views c.args.self.now c.args.other.now c.is_same.result c.is_same.ensures
