use Rattle.std.proofs.Common.{◌≡◌, List, ℕ, Some, subst}
use Rattle.policy_table.specs.Tables.{Fields}
use Rattle.role_domain.specs.Domains.{found}
use Rattle.role_domain.specs.Steps.{IsReady}
use Rattle.role_domain.specs.declared.domain.Domain.{Domain}
use Rattle.role_domain.proofs.TouchLemmas.{made_right}
use Rattle.role_graph.specs.Groups.{after, times}
use Rattle.role_domain.proofs.domains.Domains.make_one.Goals as goal

pub returns-in-Changed-clause-right : goal.returns-in-Changed-clause-right
returns-in-Changed-clause-right c = λ relation ready.
    made_right relation c.args.text (found c.args.self.now.entries c.args.text) (found c.change.new.self.entries c.args.text) c.in-Changed.own c.in-Changed.edit
    (subst (IsReady relation c.args.text (found c.args.self.now.entries c.args.text)) c.in-Changed.is ready)
    (subst (λ (t : List ℕ). (domain : Domain) → found c.args.self.now.entries t ≡ Some domain
    → (new : Domain) × (found c.change.new.self.entries t ≡ Some new) × (new.own ≡ c.in-Changed.own) × (new.graph.names ≡ domain.graph.names) × (new.graph.limit ≡ domain.graph.limit)
    × ((row : Fields) → times row new.graph.rows ≡ times row (after c.in-Changed.edit.changed domain.graph.rows)))
    c.bytes-in-Changed.ensures c.change.ensures.there)
