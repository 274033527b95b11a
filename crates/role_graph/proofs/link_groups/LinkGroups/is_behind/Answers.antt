use Rattle.std.proofs.Common.{◌≡◌, ℕ, ◌-◌, ◌<◌, ◌≤◌, length, sym, subst, ◌∙◌, arith}
use Rattle.std.proofs.lemmas.Slice.Eq.{bytes_eq-Decides}
use Rattle.role_graph.specs.Helps.Kept.{Parts, linked_of}
use Rattle.role_graph.specs.Helps.Walks.{FitsAt}
use Rattle.role_graph.proofs.LinkLemmas.{text_fits}
use Rattle.role_graph.proofs.UserLemmas.{user_once}
use Rattle.role_graph.proofs.link_groups.LinkGroups.is_behind.Goals as goal

pub returns : goal.returns
returns c = λ holds.
    subst (λ (p : Parts). (other : ℕ) → c.args.from ≤ other → other < length p.plain.groups → FitsAt (linked_of p) c.args.name.now other → ⊥) c.self.view_is
    (λ other past within fits.
    let parts : Parts = record { plain = c.self.inside.plain; patterned = c.self.inside.patterned; names = c.self.inside.names } in
    let groups = c.self.inside.plain.groups in
    let before : c.args.from - 1 < length groups = omega (arith, c.if-from-eq0.false, c.if-from-len.false, c.len.ensures) in
    let named : c.args.name.now ≡ c.user_at.result.now = (bytes_eq-Decides c.args.name.now c.user_at.result.now).0 (sym c.eq.ensures ∙ holds) in
    let same : other ≡ c.args.from - 1 = user_once groups other (c.args.from - 1) c.self.invariant.kept_texts.once within before (text_fits parts c.args.name.now other c.self.invariant within fits ∙ named ∙ c.user_at.ensures) in
    omega (arith, past, same, c.if-from-eq0.false))
