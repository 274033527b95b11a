use Rattle.std.proofs.Common.{◌<◌, ◌∙◌, arith, length, refl, sym, true≢false}
use Rattle.role_graph.specs.Helps.Mended.{IsStableAt}
use Rattle.role_graph.specs.Helps.Squares.{IsMarked}
use Rattle.role_graph.proofs.Mended.{next_place, stable_moved, unmarked}
use Rattle.role_graph.proofs.repair.mends_none.Goals as goal

pub loop-node-init : goal.loop-node-init
loop-node-init c = record {
  long = refl;
  spare = refl;
  same = λ a b within. refl;
  mends = λ linked names old mending. mending;
  stable = λ a low. absurd (omega (arith, low));
}

pub loop-node-preserved-then-not-hits-node : goal.loop-node-preserved-then-not-hits-node
loop-node-preserved-then-not-hits-node c = record {
  long = c.loop-node.invariant.long;
  spare = c.loop-node.invariant.spare;
  same = c.loop-node.invariant.same;
  mends = c.loop-node.invariant.mends;
  stable = next_place (λ a. IsMarked c.args.hits.now a → IsStableAt c.args.square.now.cells a) c.loop-node.node c.loop-node.invariant.stable (λ marked. absurd (unmarked c.args.hits.now c.loop-node.node c.if-not-hits-node.true marked));
}

pub mends_row-requires : goal.mends_row-requires
mends_row-requires c = omega (arith, c.loop-node.invariant.long, c.loop-node-test.true, c.size-node-end.ensures.value)

pub returns-then-mends_row-clause-mending : goal.returns-then-mends_row-clause-mending
returns-then-mends_row-clause-mending c = λ linked names old mending. c.mends_row.ensures.mending linked names old c.args.hits.now c.if-not-hits-node.false (c.loop-node.invariant.mends linked names old mending)

pub returns-then-mends_row-clause-lower : goal.returns-then-mends_row-clause-lower
returns-then-mends_row-clause-lower c = λ a b first second.
    let less = c.mends_row.ensures.lower a b (omega (arith, first, c.loop-node.invariant.long)) (omega (arith, second, c.loop-node.invariant.long)) in omega (arith, less, c.loop-node.invariant.same a b second)

pub returns-then-mends_row-clause-stable : goal.returns-then-mends_row-clause-stable
returns-then-mends_row-clause-stable c = λ holds. absurd (true≢false (sym holds))

pub returns-then-mends_row-clause-spare : goal.returns-then-mends_row-clause-spare
returns-then-mends_row-clause-spare c = c.mends_row.ensures.spare ∙ c.loop-node.invariant.spare

pub loop-node-preserved : goal.loop-node-preserved
loop-node-preserved c =
    let within : c.loop-node.node < length c.loop-node.square.cells = omega (arith, c.loop-node.invariant.long, c.loop-node-test.true, c.size-node-end.ensures.value) in
    record {
      long = c.mends_row.ensures.long ∙ c.loop-node.invariant.long;
      spare = c.mends_row.ensures.spare ∙ c.loop-node.invariant.spare;
      same = λ a b second. c.mends_row.ensures.same c.if-mends_row.false a b (omega (arith, second, c.loop-node.invariant.long)) ∙ c.loop-node.invariant.same a b second;
      mends = λ linked names old mending. c.mends_row.ensures.mending linked names old c.args.hits.now c.if-not-hits-node.false (c.loop-node.invariant.mends linked names old mending);
      stable = next_place (λ a. IsMarked c.args.hits.now a → IsStableAt c.args.square.now.cells a) c.loop-node.node c.loop-node.invariant.stable
          (λ marked.
          stable_moved c.loop-node.square.cells c.args.square.now.cells c.loop-node.node (sym c.loop-node.invariant.long) within (λ i j first second. sym (c.loop-node.invariant.same i j (omega (arith, second, c.loop-node.invariant.long))))
          (c.mends_row.ensures.stable c.if-mends_row.false));
    }

pub returns-clause-mending : goal.returns-clause-mending
returns-clause-mending c = c.loop-node.invariant.mends

pub returns-clause-lower : goal.returns-clause-lower
returns-clause-lower c = λ a b first second. omega (arith, c.loop-node.invariant.same a b second)

pub returns-clause-stable : goal.returns-clause-stable
returns-clause-stable c = λ holds a low marked.
    let first : a < length c.args.square.now.cells = omega (arith, low, c.loop-node.invariant.long) in
    stable_moved c.args.square.now.cells c.loop-node.square.cells a c.loop-node.invariant.long first (λ i j one other. c.loop-node.invariant.same i j other) (c.loop-node.invariant.stable a (omega (arith, first, c.size-node-end.ensures.value, c.loop-node-test.false)) marked)

pub returns-clause-spare : goal.returns-clause-spare
returns-clause-spare c = c.loop-node.invariant.spare
