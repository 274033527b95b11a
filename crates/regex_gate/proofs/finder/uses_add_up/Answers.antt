use Rattle.regex_gate.proofs.CallerLemmas.{used_none, used_then, refused_since, refused_still}
use Rattle.regex_gate.proofs.finder.uses_add_up.Goals as goal

pub returns-clause-none : goal.returns-clause-none
returns-clause-none c = used_none

pub returns-clause-again : goal.returns-clause-again
returns-clause-again c = used_then

pub returns-clause-since : goal.returns-clause-since
returns-clause-since c = refused_since

pub returns-clause-still : goal.returns-clause-still
returns-clause-still c = refused_still
