use Rattle.std.proofs.Common.{rules}
use Rattle.perm_value.specs.Helps.EqualityLaws.{equal_requests}
use Rattle.perm_value.proofs.compare.RequestPartialEq.eq.Goals as goal

pub returns-clause-decides : goal.returns-clause-decides
returns-clause-decides c = equal_requests c.args.self.now c.args.other.now c.are_same_items.result (search rules)
