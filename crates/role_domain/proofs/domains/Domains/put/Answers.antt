use Rattle.std.proofs.Common.{Some, ap, ◌∙◌}
use Rattle.role_domain.specs.Domains.{Domains, found}
use Rattle.role_domain.proofs.Keyed.{found_other, found_there}
use Rattle.role_domain.proofs.domains.Domains.put.Goals as goal

pub returns-clause-there : goal.returns-clause-there
returns-clause-there c = found_there c.args.text c.insert.new.self.entries (Some c.args.domain) c.in-Ok.ensures.updates.1

pub returns-clause-others : goal.returns-clause-others
returns-clause-others c = λ other differ.
    found_other c.args.text other c.self.inside.entries.entries c.insert.new.self.entries c.in-Ok.ensures.updates.3 differ
    ∙ ap (λ (d : Domains). found d.entries other) c.self.view_is
