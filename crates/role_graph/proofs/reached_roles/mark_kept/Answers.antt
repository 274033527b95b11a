use Rattle.std.proofs.Common.{◌∙◌, sym, arith}
use Rattle.std.proofs.lemmas.Bool.{false≢true}
use Rattle.role_graph.specs.Helps.Kept.{linked_of}
use Rattle.role_graph.specs.Helps.Roles.{nodes_of}
use Rattle.role_graph.proofs.Reached.{copied_begins, copied_sets, copied_skips, reach_kept}
use Rattle.role_graph.proofs.reached_roles.mark_kept.Goals as goal

pub clear-requires : goal.clear-requires
clear-requires c = omega (arith, c.len-count.ensures.count, c.requires.few)

pub loop-node-init : goal.loop-node-init
loop-node-init c = copied_begins c.within-near.result c.len-count.result c.clear.new.self c.clear.ensures

pub loop-node-preserved-then-not-near-node : goal.loop-node-preserved-then-not-near-node
loop-node-preserved-then-not-near-node c =
    copied_skips c.within-near.result c.len-count.result c.loop-node.node c.loop-node.marks c.loop-node-test.true (λ marked. false≢true (sym c.if-not-near-node.true ∙ marked)) c.loop-node.invariant

pub set-requires : goal.set-requires
set-requires c = omega (arith, c.loop-node-test.true, c.len-count.ensures.count, c.requires.few)

pub loop-node-preserved : goal.loop-node-preserved
loop-node-preserved c =
    copied_sets c.within-near.result c.len-count.result c.loop-node.node c.loop-node.marks c.set.new.self c.loop-node-test.true c.if-not-near-node.false c.set.ensures.marked c.set.ensures.kept c.set.ensures.only c.loop-node.invariant

pub returns : goal.returns
returns c =
    reach_kept (linked_of c.args.links.now) (nodes_of c.args.roles.now) c.args.most c.args.x.now c.within-near.result c.len-count.result c.loop-node.node c.loop-node.marks c.requires.nodes c.requires.few c.len-count.ensures.count
    c.loop-node-test.false c.within-near.ensures c.loop-node.invariant
