use Rattle.session_meaning.specs.Plain.{none_refused}
use Rattle.session_meaning.proofs.RoundLemmas.{calm_round, plain_shared, shared_counted}
use Rattle.session_meaning.proofs.laws.plain_lines_are_shared.Goals as goal

pub returns-clause-plain : goal.returns-clause-plain
returns-clause-plain c = plain_shared

pub returns-clause-there : goal.returns-clause-there
returns-clause-there c model shapes opening workers items =
    let found = c.lines_are_there.ensures.there model shapes opening items in
    (found.0, plain_shared model shapes opening workers items (none_refused items) found.0 found.1)

pub returns-clause-counted : goal.returns-clause-counted
returns-clause-counted c = shared_counted

pub returns-clause-calm : goal.returns-clause-calm
returns-clause-calm c = calm_round
