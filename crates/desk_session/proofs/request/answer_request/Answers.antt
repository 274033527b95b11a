use Rattle.desk_session.proofs.RequestLemmas.{answers_fault}
use Rattle.desk_session.proofs.request.answer_request.Goals as goal

pub returns-in-Refused-clause-answer : goal.returns-in-Refused-clause-answer
returns-in-Refused-clause-answer g c = rw c.in-Refused.is (answers_fault c.args.program.now c.args.state.now (g.P.Finder.refusals c.args.finder.now) c.in-Refused.fault)
