use Rattle.std.proofs.Common.{sym}
use Rattle.regex_gate.proofs.CallerLemmas.{used_none}
use Rattle.live_rounds.proofs.seat_answers.answer_asked.Goals as goal

pub returns-in_default-clause-used : goal.returns-in_default-clause-used
returns-in_default-clause-used g c = used_none _

pub returns-clause-served : goal.returns-clause-served
returns-clause-served g c = rw (sym c.in-Ok.ensures.read) c.answer_read-told.ensures.served
