use Rattle.std.proofs.lemmas.Result.{IfOk-weaker}
use Rattle.desk_session.proofs.LogLemmas.{none_asked, on_err_of}
use Rattle.desk_session.proofs.item.answer_item.Goals as goal

pub returns-in_default-clause-step : goal.returns-in_default-clause-step
returns-in_default-clause-step g c = IfOk-weaker c.answer_other.result _ _ (λ reply is. is _ _) c.answer_other.ensures.step

pub returns-in_default-clause-refused : goal.returns-in_default-clause-refused
returns-in_default-clause-refused g c = on_err_of c.answer_other.result (none_asked _ _ _)

pub returns-clause-step : goal.returns-clause-step
returns-clause-step g c = rw c.in-Some.ensures c.answer_ask.ensures.step

pub returns-clause-refused : goal.returns-clause-refused
returns-clause-refused g c = rw c.in-Some.ensures c.answer_ask.ensures.refused
