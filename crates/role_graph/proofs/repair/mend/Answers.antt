use Rattle.std.proofs.Common.{◌≡◌, ◌+◌, ◌*◌, ◌∙◌, ℕ, arith, refl, subst}
use Rattle.role_graph.specs.Helps.Mended.{AreTold}
use Rattle.role_graph.proofs.Mended.{stable_told, told_begins, told_fewer, told_lower}
use Rattle.role_graph.proofs.repair.mend.Goals as goal

pub more-init : goal.more-init
more-init c = record { past = omega arith; spare = refl; mends = λ linked names old mending. (mending, told_begins linked names old c.args.hits.now c.args.square.now.cells mending) }

pub returns-then-mends_none-clause-mending : goal.returns-then-mends_none-clause-mending
returns-then-mends_none-clause-mending c = λ linked names old mending. c.mends_none.ensures.mending linked names old (c.more.invariant.mends linked names old mending).0

pub returns-then-mends_none-clause-told : goal.returns-then-mends_none-clause-told
returns-then-mends_none-clause-told c = λ linked names old mending.
    stable_told linked names old c.args.hits.now c.mends_none.new.square.cells (c.mends_none.ensures.mending linked names old (c.more.invariant.mends linked names old mending).0) (c.mends_none.ensures.stable c.if-mends_none.true)

pub returns-then-mends_none-clause-spare : goal.returns-then-mends_none-clause-spare
returns-then-mends_none-clause-spare c = c.mends_none.ensures.spare ∙ c.more.invariant.spare

pub more-preserved : goal.more-preserved
more-preserved c = record {
  past = omega (arith, c.more.invariant.past);
  spare = c.mend_levels.ensures.spare ∙ c.mends_none.ensures.spare ∙ c.more.invariant.spare;
  mends = λ linked names old mending.
      let now = c.more.invariant.mends linked names old mending in
      let mended = c.mends_none.ensures.mending linked names old now.0 in
      let told = told_lower linked names old c.more.level c.more.square.cells c.mends_none.new.square.cells now.0.long c.mends_none.ensures.lower now.1 in (
        c.mend_levels.ensures.mending linked names old mended,
        subst (λ (n : ℕ). AreTold linked names old n c.mend_levels.new.square.cells) (let e : c.more.level + c.more.level ≡ c.more.level * 2 = omega arith in e) (c.mend_levels.ensures.told linked names old c.more.level mended told),
      );
}

pub returns-clause-mending : goal.returns-clause-mending
returns-clause-mending c = λ linked names old mending. (c.more.invariant.mends linked names old mending).0

pub returns-clause-told : goal.returns-clause-told
returns-clause-told c = λ linked names old mending. told_fewer linked names old 254 c.more.level c.more.square.cells (omega (arith, c.more-test.false)) (c.more.invariant.mends linked names old mending).1

pub returns-clause-spare : goal.returns-clause-spare
returns-clause-spare c = c.more.invariant.spare
