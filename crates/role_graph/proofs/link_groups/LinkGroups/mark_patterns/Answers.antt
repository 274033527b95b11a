use Rattle.std.proofs.Common.{◌≡◌, ℕ, length, ap, subst, ◌∙◌, arith}
use Rattle.role_graph.specs.Helps.Kept.{linked_of, Parts}
use Rattle.role_graph.proofs.WalkLemmas.{HasMarked, has_marked_none}
use Rattle.role_graph.proofs.LinkLemmas.{behind_count}
use Rattle.role_graph.proofs.link_groups.LinkGroups.mark_patterns.Goals as goal

pub loop-at-init : goal.loop-at-init
loop-at-init c = has_marked_none (linked_of c.args.self.now) c.args.name.now c.len-count.result c.args.reached.now c.args.fresh.now

pub returns-clause-marked : goal.returns-clause-marked
returns-clause-marked c =
    let count : c.len-count.result ≡ length c.args.self.now.plain.groups = c.len-count.ensures ∙ ap (λ (p : Parts). length p.plain.groups) c.self.view_is in
    let end : c.len-at-end.result ≡ length c.args.self.now.patterned.groups = c.len-at-end.ensures ∙ ap (λ (p : Parts). length p.patterned.groups) c.self.view_is in
    behind_count c.args.self.now c.args.name.now c.loop-at.at c.args.reached.now c.args.fresh.now c.loop-at.reached c.loop-at.fresh (omega (arith, end, c.loop-at-test.false))
    (subst (λ (n : ℕ). HasMarked (linked_of c.args.self.now) c.args.name.now n c.loop-at.at c.args.reached.now c.args.fresh.now c.loop-at.reached c.loop-at.fresh) count c.loop-at.invariant)
