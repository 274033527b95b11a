use Rattle.std.proofs.Common.{ℕ, [], get_or, subst, arith}
use Rattle.role_meaning.specs.Distances.{IsFar}
use Rattle.rbac_query.specs.Helps.Entries.{user_in}
use Rattle.rbac_query.specs.Report.{asked}
use Rattle.rbac_query.proofs.RunLemmas.{as_far_between}
use Rattle.rbac_query.proofs.distances.end_between.Goals as goal

pub loop-high-init : goal.loop-high-init
loop-high-init c = record {
  first = omega arith;
  ordered = c.requires.behind;
  within = omega (arith, c.requires.within);
  known = λ rows of one. one;
}

pub links_at-far-requires : goal.links_at-far-requires
links_at-far-requires c = omega (arith, c.loop-high.invariant.within, c.tested_next-middle.ensures.before)

pub loop-high-preserved-then-far-links : goal.loop-high-preserved-then-far-links
loop-high-preserved-then-far-links c =
    let shape = c.args.section.now.shape in
    let place = c.tested_next-middle.result in
    record {
      first = omega (arith, c.loop-high.invariant.first, c.tested_next-middle.ensures.behind);
      ordered = c.tested_next-middle.ensures.before;
      within = c.loop-high.invariant.within;
      known = λ rows of one. subst (λ (n : ℕ). IsFar shape rows (asked shape c.args.domain.now) c.args.user.now (get_or c.args.names.now place []) n) c.if-far-links.true (c.links_at-far.ensures rows of);
    }

pub loop-high-preserved : goal.loop-high-preserved
loop-high-preserved c = record {
  first = c.loop-high.invariant.first;
  ordered = c.tested_next-middle.ensures.behind;
  within = omega (arith, c.loop-high.invariant.within, c.tested_next-middle.ensures.before);
  known = c.loop-high.invariant.known;
}

pub returns-clause-far : goal.returns-clause-far
returns-clause-far c =
    λ rows of ordered one. as_far_between c.args.section.now.shape rows (user_in c.args.user.now c.args.domain.now) c.args.names.now ordered c.args.at c.loop-high.low c.args.links
    (omega (arith, c.loop-high.invariant.ordered, c.loop-high.invariant.within)) one (c.loop-high.invariant.known rows of one)
