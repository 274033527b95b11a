use Rattle.regex_gate.proofs.CallerLemmas.{used_none}
use Rattle.desk_session.proofs.printed_reply.print_asked.Goals as goal

pub returns-in_err-line-clause-used : goal.returns-in_err-line-clause-used
returns-in_err-line-clause-used g c = used_none _
