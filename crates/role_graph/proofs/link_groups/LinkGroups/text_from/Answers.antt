use Rattle.std.proofs.Common.{◌≡◌, ◌≤◌, ◌<◌, ℕ, None, Some, length, sym, ap, subst, arith}
use Rattle.role_graph.specs.Helps.Kept.{Parts, linked_of}
use Rattle.role_graph.specs.Helps.Walks.{FitsAt}
use Rattle.role_graph.proofs.LinkLemmas.{fits_text, text_first, text_none}
use Rattle.role_graph.proofs.link_groups.LinkGroups.text_from.Goals as goal

pub returns-in_default-clause-first : goal.returns-in_default-clause-first
returns-in_default-clause-first c =
    subst (λ (p : Parts). (other : ℕ) → c.args.from ≤ other → other < length p.plain.groups → FitsAt (linked_of p) c.args.name.now other → None ≡ Some other) c.self.view_is
    (λ other past within fits. absurd
    (text_none (record { plain = c.self.inside.plain; patterned = c.self.inside.patterned; names = c.self.inside.names }) c.args.name.now other c.self.invariant c.in_default.ensures.none within fits))

pub returns-then-at-from-clause-first : goal.returns-then-at-from-clause-first
returns-then-at-from-clause-first c =
    subst (λ (p : Parts). (other : ℕ) → c.args.from ≤ other → other < length p.plain.groups → FitsAt (linked_of p) c.args.name.now other → None ≡ Some other) c.self.view_is
    (λ other past within fits. absurd
    (let same : other ≡ c.in-Some.at = text_first (record { plain = c.self.inside.plain; patterned = c.self.inside.patterned; names = c.self.inside.names }) c.args.name.now c.in-Some.at other c.self.invariant c.in-Some.ensures.found within fits in
    omega (arith, same, c.if-at-from.true)))

pub returns-clause-found : goal.returns-clause-found
returns-clause-found c =
    subst (λ (p : Parts). (c.args.from ≤ c.in-Some.at) × (c.in-Some.at < length p.plain.groups) × FitsAt (linked_of p) c.args.name.now c.in-Some.at) c.self.view_is (
      c.if-at-from.false,
      c.in-Some.ensures.found.0,
      fits_text (record { plain = c.self.inside.plain; patterned = c.self.inside.patterned; names = c.self.inside.names }) c.args.name.now c.in-Some.at c.in-Some.ensures.found.0 c.in-Some.ensures.found.1,
    )

pub returns-clause-first : goal.returns-clause-first
returns-clause-first c =
    subst (λ (p : Parts). (other : ℕ) → c.args.from ≤ other → other < length p.plain.groups → FitsAt (linked_of p) c.args.name.now other → Some c.in-Some.at ≡ Some other) c.self.view_is
    (λ other past within fits. ap (λ (n : ℕ). Some n)
    (sym (text_first (record { plain = c.self.inside.plain; patterned = c.self.inside.patterned; names = c.self.inside.names }) c.args.name.now c.in-Some.at other c.self.invariant c.in-Some.ensures.found within fits)))
