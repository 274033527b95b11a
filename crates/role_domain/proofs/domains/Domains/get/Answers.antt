use Rattle.std.proofs.Common.{ap, sym, ◌∙◌}
use Rattle.role_domain.specs.Domains.{Domains}
use Rattle.role_domain.proofs.FirstLemmas.{first_found}
use Rattle.role_domain.proofs.Keyed.{seen_at}
use Rattle.role_domain.proofs.domains.Domains.get.Goals as goal

pub returns-then-eq : goal.returns-then-eq
returns-then-eq c =
    first_found c.args.text.now c.self.inside.entries.entries c.args.self.now.entries c.in-Some.first.now c.in-Some.domain.now c.bytes.result.now (ap (λ (d : Domains). d.entries) c.self.view_is) c.in-Some.ensures.entry c.bytes.ensures (sym c.eq.ensures ∙ c.if-eq.true)

pub returns : goal.returns
returns c = seen_at c.args.text.now c.self.inside.entries.entries c.args.self.now.entries _ (ap (λ (d : Domains). d.entries) c.self.view_is) c.get.ensures.value
