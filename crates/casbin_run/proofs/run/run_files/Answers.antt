use Rattle.std.proofs.Common.{sym, ap, ◌∙◌}
use Rattle.run_status.specs.declared.status.Status.{Status}
use Rattle.casbin_run.specs.Ends.{has_read}
use Rattle.loaded_work.specs.Sinks.{taken}
use Rattle.casbin_run.proofs.EndLemmas.{stopped_ends, told_since}
use Rattle.casbin_run.proofs.run.run_files.Goals as goal

pub returns-in-Err-clause-ends : goal.returns-in-Err-clause-ends
returns-in-Err-clause-ends g c =
    let err_now = taken (g.E.Sink.taken c.tell_stop.new.err) (g.E.Sink.faults c.tell_stop.new.err) in
    stopped_ends _ _ _ _ err_now c.tell_stop.result c.in-Err.stop c.tell_stop.ensures.status c.in-Err.ensures.comes.stopped (told_since _ _ err_now _ c.in-Err.ensures.comes.silent c.tell_stop.ensures.told)

pub returns-in-Ok-clause-read_to_end : goal.returns-in-Ok-clause-read_to_end
returns-in-Ok-clause-read_to_end g c = λ past asks. c.in-Ok.ensures.comes.read_to_end past asks

pub returns-in-Ok-clause-ended : goal.returns-in-Ok-clause-ended
returns-in-Ok-clause-ended g c = λ past asks. c.in-Ok.ensures.comes.ended past asks

pub returns-in-Err-clause-read_to_end : goal.returns-in-Err-clause-read_to_end
returns-in-Err-clause-read_to_end g c = λ past asks. c.in-Err.ensures.comes.read_to_end (ap (λ (s : Status). has_read s) (sym c.tell_stop.ensures.status) ∙ past) asks

pub returns-in-Err-clause-ended : goal.returns-in-Err-clause-ended
returns-in-Err-clause-ended g c = λ past asks. c.in-Err.ensures.comes.ended (ap (λ (s : Status). has_read s) (sym c.tell_stop.ensures.status) ∙ past) asks
