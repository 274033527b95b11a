use Rattle.std.proofs.Common.{◌∙◌}
use Rattle.role_domain.proofs.Keyed.{seen_at}
use Rattle.role_domain.proofs.TallyLemmas.{rows_found, rows_nowhere}
use Rattle.role_domain.proofs.tallies.Tallies.rows_of.Goals as goal

pub returns-in-Some : goal.returns-in-Some
returns-in-Some c =
    c.as_slice.ensures.value
    ∙ rows_found c.args.self.now c.args.text.now c.in-Some.tally.now (seen_at c.args.text.now c.self.inside.entries.entries c.args.self.now _ c.self.view_is c.in-Some.ensures.value)

pub returns-in-None : goal.returns-in-None
returns-in-None c = rows_nowhere c.args.self.now c.args.text.now (seen_at c.args.text.now c.self.inside.entries.entries c.args.self.now _ c.self.view_is c.in-None.ensures.value)
