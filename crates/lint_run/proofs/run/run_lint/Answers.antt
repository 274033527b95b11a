use Rattle.std.proofs.Common.{inl, inr, refl}
use Rattle.lint_run.proofs.run.run_lint.Goals as goal

-- done: the record of `lint`, and `err` is as it was; stopped: its stop, whose status and line `tell_stop` gives
pub returns-in-Ok-clause-ends : goal.returns-in-Ok-clause-ends
returns-in-Ok-clause-ends g c = let has = c.in-Ok.ensures.done in inl (record { job = has.job; asked = has.asked; text = has.text; lints = has.lints; took = has.took; silent = refl; faultless = refl })

pub returns-in-Err-clause-ends : goal.returns-in-Err-clause-ends
returns-in-Err-clause-ends g c = inr (record { stop = c.in-Err.stop; why = c.in-Err.ensures.stopped; status_is = c.tell_stop.ensures.status; told = c.tell_stop.ensures.told })
