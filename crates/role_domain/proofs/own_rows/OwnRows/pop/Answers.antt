use Rattle.role_domain.proofs.Popped.{pop_fewer, pop_gone, pop_others, pop_there}
use Rattle.role_domain.proofs.own_rows.OwnRows.pop.Goals as goal

pub returns-clause-there : goal.returns-clause-there
returns-clause-there c = pop_there c.pop.result c.self.inside.entries c.pop.new.self c.args.self.now c.self.view_is c.pop.ensures.entries c.pop.ensures.updates

pub returns-clause-gone : goal.returns-clause-gone
returns-clause-gone c = pop_gone c.pop.result c.self.inside.entries c.pop.new.self c.pop.ensures.updates

pub returns-clause-others : goal.returns-clause-others
returns-clause-others c = pop_others c.pop.result c.self.inside.entries c.pop.new.self c.args.self.now c.self.view_is c.pop.ensures.updates

pub returns-clause-fewer : goal.returns-clause-fewer
returns-clause-fewer c = pop_fewer c.pop.result c.self.inside.entries c.pop.new.self c.args.self.now c.self.view_is c.pop.ensures.entries
