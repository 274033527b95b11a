use Rattle.matcher_meaning.proofs.VerdictLemmas.{is_verdict_one}
use Rattle.matcher_meaning.proofs.case_laws.case_verdict_is_unique.Goals as goal

pub returns : goal.returns
returns c model shapes policy request refused first second p q = is_verdict_one c.depth_is_one.ensures.unique c.case_answer_is_unique.ensures.truth model shapes policy request refused first second p q
