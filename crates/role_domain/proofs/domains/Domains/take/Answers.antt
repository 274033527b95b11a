use Rattle.std.proofs.Common.{None, ap, ◌∙◌}
use Rattle.role_domain.specs.Domains.{Domains, found}
use Rattle.role_domain.proofs.Keyed.{found_other, found_there}
use Rattle.role_domain.proofs.domains.Domains.take.Goals as goal

pub returns-clause-gone : goal.returns-clause-gone
returns-clause-gone c = found_there c.args.text.now c.swap_remove-gone.new.self.entries None c.swap_remove-gone.ensures.updates.1

pub returns-clause-others : goal.returns-clause-others
returns-clause-others c = λ other differ.
    found_other c.args.text.now other c.self.inside.entries.entries c.swap_remove-gone.new.self.entries c.swap_remove-gone.ensures.updates.3 differ
    ∙ ap (λ (d : Domains). found d.entries other) c.self.view_is
