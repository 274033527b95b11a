use Rattle.std.proofs.Common.{ℕ, [], get_or, subst}
use Rattle.role_meaning.specs.Distances.{IsFar}
use Rattle.rbac_query.specs.Helps.Entries.{user_in}
use Rattle.rbac_query.specs.Report.{asked}
use Rattle.rbac_query.proofs.RunLemmas.{as_far_alone, as_far_between}
use Rattle.rbac_query.proofs.distances.end_of.Goals as goal

pub returns-then-last-at-clause-far : goal.returns-then-last-at-clause-far
returns-then-last-at-clause-far c =
    λ rows of ordered one. as_far_alone c.args.section.now.shape rows (user_in c.args.user.now c.args.domain.now) c.args.names.now c.args.at c.args.links one

pub returns-then-far-links-clause-far : goal.returns-then-far-links-clause-far
returns-then-far-links-clause-far c =
    let shape = c.args.section.now.shape in
    let place = c.last_rising-last.result in
    λ rows of ordered one. as_far_between shape rows (user_in c.args.user.now c.args.domain.now) c.args.names.now ordered c.args.at place c.args.links c.last_rising-last.ensures.within one
    (subst (λ (n : ℕ). IsFar shape rows (asked shape c.args.domain.now) c.args.user.now (get_or c.args.names.now place []) n) c.if-far-links.true (c.links_at-far.ensures rows of))

pub returns-clause-far : goal.returns-clause-far
returns-clause-far c = c.end_between.ensures.far
