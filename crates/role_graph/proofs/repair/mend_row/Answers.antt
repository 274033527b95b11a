use Rattle.std.proofs.Common.{◌≡◌, ◌≢◌, ◌⊎◌, inl, inr, ◌≤◌, ◌∙◌, ℕ, List, arith, refl, subst, sym}
use Rattle.std.proofs.lemmas.Bool.{cases_eq}
use Rattle.dist_rows.specs.Squares.{cell_of}
use Rattle.role_graph.proofs.Mended.{by_row_begins, by_row_ends, by_row_more, by_row_skips, kept_one, low_more, low_skips}
use Rattle.role_graph.proofs.repair.mend_row.Goals as goal

pub loop-next-init : goal.loop-next-init
loop-next-init c = record {
  long = refl;
  spare = refl;
  others = λ a b differ. refl;
  lower = λ b within. omega arith;
  low = λ same next b less. absurd (omega (arith, less));
  mends = λ linked names old hits marked mending. by_row_begins linked names old hits c.args.node c.args.square.now.cells mending;
}

pub loop-next-preserved-then-distance-ne1 : goal.loop-next-preserved-then-distance-ne1
loop-next-preserved-then-distance-ne1 c = record {
  long = c.loop-next.invariant.long;
  spare = c.loop-next.invariant.spare;
  others = c.loop-next.invariant.others;
  lower = c.loop-next.invariant.lower;
  low = low_skips c.args.node c.loop-next.next c.distance.result c.args.square.now.cells c.loop-next.square.cells (omega (arith, c.loop-next-test.true, c.size-next-end.ensures.value)) c.distance.ensures.cell c.if-distance-ne1.true c.loop-next.invariant.low;
  mends = λ linked names old hits marked mending.
      let row = c.loop-next.invariant.mends linked names old hits marked mending in
      by_row_skips linked names old hits c.args.node c.loop-next.next c.args.square.now.cells c.loop-next.square.cells
      (kept_one linked names old hits c.args.node c.loop-next.next c.distance.result c.loop-next.square.cells row.mending c.distance.ensures.cell c.if-distance-ne1.true) row;
}

pub distance-requires-clause-a : goal.distance-requires-clause-a
distance-requires-clause-a c = omega (arith, c.loop-next.invariant.long, c.requires)

pub distance-requires-clause-b : goal.distance-requires-clause-b
distance-requires-clause-b c = omega (arith, c.loop-next.invariant.long, c.loop-next-test.true, c.size-next-end.ensures.value)

pub mend_by-requires-clause-node : goal.mend_by-requires-clause-node
mend_by-requires-clause-node c = omega (arith, c.loop-next.invariant.long, c.requires)

pub mend_by-requires-clause-next : goal.mend_by-requires-clause-next
mend_by-requires-clause-next c = omega (arith, c.loop-next.invariant.long, c.loop-next-test.true, c.size-next-end.ensures.value)

pub loop-next-preserved : goal.loop-next-preserved
loop-next-preserved c = record {
  long = c.mend_by.ensures.long ∙ c.loop-next.invariant.long;
  spare = c.mend_by.ensures.spare ∙ c.loop-next.invariant.spare;
  others = λ a b differ. c.mend_by.ensures.others a b differ ∙ c.loop-next.invariant.others a b differ;
  lower = λ b within. let is = c.mend_by.ensures.cells b (omega (arith, within, c.loop-next.invariant.long)) in let before = c.loop-next.invariant.lower b within in omega (arith, is, before);
  low = low_more c.args.node c.loop-next.next c.args.square.now.cells c.loop-next.square.cells c.mend_by.new.square.cells c.loop-next.invariant.long c.mend_by.ensures.cells c.loop-next.invariant.others c.loop-next.invariant.lower c.loop-next.invariant.low;
  mends = λ linked names old hits marked mending.
      by_row_more linked names old hits c.args.node c.loop-next.next c.args.square.now.cells c.loop-next.square.cells c.mend_by.new.square.cells marked (omega (arith, c.loop-next.invariant.long, c.requires))
      (omega (arith, c.loop-next.invariant.long, c.loop-next-test.true, c.size-next-end.ensures.value)) (sym c.distance.ensures.cell ∙ c.if-distance-ne1.false) c.loop-next.invariant.long c.mend_by.ensures.long
      c.mend_by.ensures.square c.mend_by.ensures.cells c.mend_by.ensures.others c.loop-next.invariant.others (c.loop-next.invariant.mends linked names old hits marked mending);
}

pub returns-clause-mending : goal.returns-clause-mending
returns-clause-mending c = λ linked names old hits marked mending. (c.loop-next.invariant.mends linked names old hits marked mending).mending

-- the row of the node is lower, and the others are as they were
lower_all : (node a b : ℕ) (old new : List (List ℕ)) → ((i j : ℕ) → i ≢ node → cell_of new i j ≡ cell_of old i j) → cell_of new node b ≤ cell_of old node b → cell_of new a b ≤ cell_of old a b
lower_all node a b old new others lower = by (cases_eq a node)
  where
    by : (a ≡ node) ⊎ (a ≡ node → ⊥) → cell_of new a b ≤ cell_of old a b
    by (inl same) = subst (λ (n : ℕ). cell_of new n b ≤ cell_of old n b) (sym same) lower
    by (inr differ) = omega (arith, others a b differ)

pub returns-clause-lower : goal.returns-clause-lower
returns-clause-lower c = λ a b first second. lower_all c.args.node a b c.args.square.now.cells c.loop-next.square.cells c.loop-next.invariant.others (c.loop-next.invariant.lower b second)

pub returns-clause-others : goal.returns-clause-others
returns-clause-others c = c.loop-next.invariant.others

pub returns-clause-stable : goal.returns-clause-stable
returns-clause-stable c = λ same next b less one inside. c.loop-next.invariant.low same next b (omega (arith, less, c.size-next-end.ensures.value, c.loop-next-test.false)) one inside

pub returns-clause-by : goal.returns-clause-by
returns-clause-by c = λ linked names old hits marked mending.
    by_row_ends linked names old hits c.args.node c.loop-next.next c.args.square.now.cells c.loop-next.square.cells (omega (arith, c.size-next-end.ensures.value, c.loop-next-test.false)) mending.long
    (c.loop-next.invariant.mends linked names old hits marked mending)

pub returns-clause-long : goal.returns-clause-long
returns-clause-long c = c.loop-next.invariant.long

pub returns-clause-spare : goal.returns-clause-spare
returns-clause-spare c = c.loop-next.invariant.spare
