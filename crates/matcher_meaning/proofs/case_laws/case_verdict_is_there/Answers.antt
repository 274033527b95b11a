use Rattle.matcher_meaning.specs.Cases.{at_row, where_refused}
use Rattle.matcher_meaning.specs.Verdicts.{case_of}
use Rattle.matcher_meaning.proofs.VerdictLemmas.{is_verdict_some}
use Rattle.matcher_meaning.proofs.case_laws.case_verdict_is_there.Goals as goal

pub returns : goal.returns
returns c model shapes policy request refused =
    is_verdict_some c.depth_is_one.ensures.there model shapes policy request
    (λ row held. c.case_answer_is_there.ensures.truth (where_refused (at_row (case_of model shapes policy request) row) held) model.matcher) refused
