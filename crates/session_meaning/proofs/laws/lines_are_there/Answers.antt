use Rattle.std.proofs.Common.{None, inl}
use Rattle.session_meaning.proofs.LineLemmas.{plain_counted, plain_some}
use Rattle.session_meaning.proofs.laws.lines_are_there.Goals as goal

pub returns-clause-there : goal.returns-clause-there
returns-clause-there c model shapes opening items =
    plain_some model shapes opening (λ policy values. let found = c.case_verdict_is_there.ensures model shapes policy values None in (found.0, inl found.1)) items

pub returns-clause-counted : goal.returns-clause-counted
returns-clause-counted c model shapes opening items refused lines are = plain_counted model shapes opening items refused lines are
