use Rattle.std.proofs.Common.{rules}
use Rattle.perm_value.specs.Helps.EqualityLaws.{equal_values}
use Rattle.perm_value.proofs.compare.ValuePartialEq.eq.Goals as goal

pub returns-clause-decides : goal.returns-clause-decides
returns-clause-decides c = equal_values c.args.self.now c.args.other.now c.is_same.result (search rules)
