use Rattle.role_meaning.proofs.Reach.{has_roles_decided, reaches_decided}
use Rattle.role_meaning.proofs.Rows.{counts_decided, fits_decided}
use Rattle.role_meaning.proofs.laws.links_are_decided.Goals as goal

pub returns-clause-fits : goal.returns-clause-fits
returns-clause-fits c = fits_decided c.covering_is_decided.ensures.star c.covering_is_decided.ensures.covers

pub returns-clause-counts : goal.returns-clause-counts
returns-clause-counts c = counts_decided (fits_decided c.covering_is_decided.ensures.star c.covering_is_decided.ensures.covers)

pub returns-clause-reaches : goal.returns-clause-reaches
returns-clause-reaches c = reaches_decided (fits_decided c.covering_is_decided.ensures.star c.covering_is_decided.ensures.covers)

pub returns-clause-has_roles : goal.returns-clause-has_roles
returns-clause-has_roles c = has_roles_decided (fits_decided c.covering_is_decided.ensures.star c.covering_is_decided.ensures.covers)
