use Rattle.std.proofs.Common.{ℕ, IsTrue, true, length, ◌≤◌, subst, sym}
use Rattle.std.specs.Prelude.{◌↔◌}
use Rattle.role_graph.specs.Helps.Kept.{Parts, linked_of}
use Rattle.role_graph.specs.Helps.Walks.{FitsAt}
use Rattle.role_graph.proofs.LinkLemmas.{rest_fitting, text_fitting}
use Rattle.role_graph.proofs.link_groups.LinkGroups.has_fitting.Goals as goal

pub returns-in-Some : goal.returns-in-Some
returns-in-Some c =
    subst (λ (p : Parts). IsTrue true ↔ ((at : ℕ) × FitsAt (linked_of p) c.args.name.now at)) c.self.view_is
    (text_fitting (record { plain = c.self.inside.plain; patterned = c.self.inside.patterned; names = c.self.inside.names }) c.args.name.now c.in-Some._place c.in-Some.ensures.found)

pub returns : goal.returns
returns c =
    subst (λ (p : Parts). IsTrue c.has_pattern_for.result ↔ ((at : ℕ) × FitsAt (linked_of p) c.args.name.now at)) c.self.view_is
    (rest_fitting (record { plain = c.self.inside.plain; patterned = c.self.inside.patterned; names = c.self.inside.names }) c.args.name.now c.has_pattern_for.result c.self.invariant c.in_default.ensures.none
    (subst (λ (p : Parts). IsTrue c.has_pattern_for.result ↔ ((at : ℕ) × (length p.plain.groups ≤ at) × FitsAt (linked_of p) c.args.name.now at)) (sym c.self.view_is) c.has_pattern_for.ensures))
