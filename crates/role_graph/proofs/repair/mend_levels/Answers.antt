use Rattle.std.proofs.Common.{◌≡◌, ◌+◌, ◌∙◌, ℕ, arith, refl, subst}
use Rattle.role_graph.specs.Helps.Mended.{AreTold}
use Rattle.role_graph.proofs.Mended.{told_fewer}
use Rattle.role_graph.proofs.repair.mend_levels.Goals as goal

pub loop-level-init : goal.loop-level-init
loop-level-init c = record {
  spare = refl;
  mends = λ linked names old mending. mending;
  told = λ linked names old most mending told. told_fewer linked names old (most + 0) most c.args.square.now.cells (omega arith) told;
}

pub loop-level-preserved : goal.loop-level-preserved
loop-level-preserved c = record {
  spare = c.mend_all.ensures.spare ∙ c.loop-level.invariant.spare;
  mends = λ linked names old mending. c.mend_all.ensures.mending linked names old (c.loop-level.invariant.mends linked names old mending);
  told = λ linked names old most mending told.
      subst (λ (n : ℕ). AreTold linked names old n c.mend_all.new.square.cells) (let e : most + c.loop-level._level + 1 ≡ most + (c.loop-level._level + 1) = omega arith in e)
      (c.mend_all.ensures.told linked names old (most + c.loop-level._level) (c.loop-level.invariant.mends linked names old mending) (c.loop-level.invariant.told linked names old most mending told));
}

pub returns-clause-mending : goal.returns-clause-mending
returns-clause-mending c = c.loop-level.invariant.mends

pub returns-clause-told : goal.returns-clause-told
returns-clause-told c = λ linked names old most mending told.
    told_fewer linked names old (most + c.args.levels) (most + c.loop-level._level) c.loop-level.square.cells (omega (arith, c.loop-level-test.false)) (c.loop-level.invariant.told linked names old most mending told)

pub returns-clause-spare : goal.returns-clause-spare
returns-clause-spare c = c.loop-level.invariant.spare
