use Rattle.policy_index.proofs.LawLemmas.{alike_may, brace_may, colon_may, cut_may, glob_may, star_may}
use Rattle.policy_index.proofs.laws.fitting_text_may_fit.Goals as goal

pub returns-clause-star : goal.returns-clause-star
returns-clause-star c = star_may

pub returns-clause-colon : goal.returns-clause-colon
returns-clause-colon c = colon_may

pub returns-clause-brace : goal.returns-clause-brace
returns-clause-brace c = brace_may

pub returns-clause-alike : goal.returns-clause-alike
returns-clause-alike c = alike_may

pub returns-clause-cut : goal.returns-clause-cut
returns-clause-cut c = cut_may

pub returns-clause-glob : goal.returns-clause-glob
returns-clause-glob c = glob_may
