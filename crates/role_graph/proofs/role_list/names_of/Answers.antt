use Rattle.std.proofs.Common.{◌≡◌, ◌+◌, ◌<◌, ◌++◌, ◌∷◌, [], ℕ, rules, sym, subst, ◌∙◌}
use Rattle.std.proofs.lemmas.Bool.{false≢true}
use Rattle.role_graph.specs.Helps.Distances.{ArePicked}
use Rattle.role_graph.specs.Helps.Roles.{nodes_of}
use Rattle.role_graph.proofs.PickLemmas.{picked_more, picked_none, picked_skips}
use Rattle.role_graph.proofs.role_list.names_of.Goals as goal

pub loop-node-init : goal.loop-node-init
loop-node-init c = picked_none (nodes_of c.args.roles.now) c.args.reached.now c.args.seen.now c.new-names.result.items c.new-names.ensures.items

pub loop-node-preserved-then-not-reached-node : goal.loop-node-preserved-then-not-reached-node
loop-node-preserved-then-not-reached-node c =
    picked_skips (nodes_of c.args.roles.now) c.args.reached.now c.args.seen.now c.loop-node.node c.loop-node.names.items
    (λ now new. false≢true (sym c.if-not-reached-node.true ∙ now)) c.loop-node.invariant

pub loop-node-preserved-then-seen-node : goal.loop-node-preserved-then-seen-node
loop-node-preserved-then-seen-node c =
    picked_skips (nodes_of c.args.roles.now) c.args.reached.now c.args.seen.now c.loop-node.node c.loop-node.names.items
    (λ now new. new c.if-seen-node.true) c.loop-node.invariant

pub loop-node-preserved : goal.loop-node-preserved
loop-node-preserved c =
    let longer : c.push.new.self.items ≡ c.loop-node.names.items ++ c.in_ok-from_str.field-0 ∷ [] = search rules in
    subst (ArePicked (nodes_of c.args.roles.now) c.args.reached.now c.args.seen.now (c.loop-node.node + 1)) (sym longer)
    (picked_more (nodes_of c.args.roles.now) c.args.reached.now c.args.seen.now c.loop-node.node c.loop-node.names.items c.in_ok-from_str.field-0 c.len-node-end.ensures.once
    (subst (λ (n : ℕ). c.loop-node.node < n) c.len-node-end.ensures.count c.loop-node-test.true) (c.in_ok-from_str.ensures ∙ c.text_at.ensures) c.if-not-reached-node.false (λ marked. false≢true (sym c.if-seen-node.false ∙ marked)) c.loop-node.invariant)
