use Rattle.role_domain.proofs.Keyed.{seen_at}
use Rattle.role_domain.proofs.TallyLemmas.{own_found, own_nowhere}
use Rattle.role_domain.proofs.tallies.Tallies.own_of.Goals as goal

pub returns-in-Some : goal.returns-in-Some
returns-in-Some c = own_found c.args.self.now c.args.text.now c.in-Some.tally.now (seen_at c.args.text.now c.self.inside.entries.entries c.args.self.now _ c.self.view_is c.in-Some.ensures.value)

pub returns-in-None : goal.returns-in-None
returns-in-None c = own_nowhere c.args.self.now c.args.text.now (seen_at c.args.text.now c.self.inside.entries.entries c.args.self.now _ c.self.view_is c.in-None.ensures.value)
