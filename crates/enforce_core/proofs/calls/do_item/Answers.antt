use Rattle.std.proofs.lemmas.Result.{err_from_is_err_and}
use Rattle.enforce_core.proofs.calls.do_item.Goals as goal

pub returns-in_err-answer-clause-does : goal.returns-in_err-answer-clause-does
returns-in_err-answer-clause-does c =
    let p = err_from_is_err_and c.from_residual.result c.from_residual.ensures.1 in
    rw (p.1, p.2) c.in_err-answer.ensures.stopped

pub returns-in_default-clause-does : goal.returns-in_default-clause-does
returns-in_default-clause-does c = record { reply = c.in_ok-answer.answer; step = c.in_ok-answer.ensures.step }

pub returns-clause-does : goal.returns-clause-does
returns-clause-does c = record {
  done = record { reply = c.in_ok-answer.answer; step = c.in_ok-answer.ensures.step };
  refused = c.is_refused-refused.ensures;
  line = c.in-Some.ensures;
}
