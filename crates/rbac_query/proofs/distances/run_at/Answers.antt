use Rattle.rbac_query.specs.Helps.Entries.{user_in}
use Rattle.rbac_query.proofs.RunLemmas.{as_far_alone}
use Rattle.rbac_query.proofs.distances.run_at.Goals as goal

pub returns-then-at-so_far-clause-far : goal.returns-then-at-so_far-clause-far
returns-then-at-so_far-clause-far c = λ rows of ordered known. known

pub returns-then-links-before-clause-far : goal.returns-then-links-before-clause-far
returns-then-links-before-clause-far c =
    λ rows of ordered known. as_far_alone c.args.section.now.shape rows (user_in c.args.user.now c.args.domain.now) c.args.names.now c.args.at c.links_at-links.result (c.links_at-links.ensures rows of)

pub returns-clause-far : goal.returns-clause-far
returns-clause-far c = λ rows of ordered known. c.end_of-end.ensures.far rows of ordered (c.links_at-links.ensures rows of)
