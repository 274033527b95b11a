use Rattle.key_match.proofs.FrontLemmas.{alike_begins, brace_begins, colon_begins, cut_begins, glob_begins, star_begins}
use Rattle.key_match.proofs.laws.fitting_key_has_front.Goals as goal

pub returns-clause-star : goal.returns-clause-star
returns-clause-star c = star_begins

pub returns-clause-colon : goal.returns-clause-colon
returns-clause-colon c = colon_begins

pub returns-clause-brace : goal.returns-clause-brace
returns-clause-brace c = brace_begins

pub returns-clause-cut : goal.returns-clause-cut
returns-clause-cut c = cut_begins

pub returns-clause-alike : goal.returns-clause-alike
returns-clause-alike c = alike_begins

pub returns-clause-glob : goal.returns-clause-glob
returns-clause-glob c = glob_begins
