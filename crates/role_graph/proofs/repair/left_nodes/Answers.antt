use Rattle.std.proofs.Common.{arith, refl}
use Rattle.dist_rows.specs.Squares.{cell_of}
use Rattle.role_graph.specs.Helps.Kept.{linked_of}
use Rattle.role_graph.specs.Helps.Roles.{nodes_of}
use Rattle.role_graph.proofs.Mended.{kept_link, kept_linked, kept_untouched, unmarked}
use Rattle.role_graph.proofs.repair.left_nodes.Goals as goal

pub returns-then-not-touched-node : goal.returns-then-not-touched-node
returns-then-not-touched-node c = λ old first before b second one. (
  λ marked. kept_untouched (linked_of c.args.links.now) (nodes_of c.args.roles.now) c.args.touched.now old c.args.node b (cell_of old c.args.node b) before first second refl one (unmarked c.args.touched.now c.args.node c.if-not-touched-node.true),
  λ kept. c.nodes_from.ensures b (omega arith) (omega (arith, second, before.long, c.requires.few)),
)

pub returns : goal.returns
returns c = λ old first before b second one.
    let tells = c.linked_nodes.ensures b (omega (arith, second, before.long, c.requires.few)) (omega (arith, second, before.long)) in (
      λ marked. kept_linked (linked_of c.args.links.now) (nodes_of c.args.roles.now) old c.args.node b (cell_of old c.args.node b) first second refl one (tells.0 marked),
      λ kept. tells.1 (kept_link (linked_of c.args.links.now) (nodes_of c.args.roles.now) old c.args.node b before.closed first one kept),
    )
