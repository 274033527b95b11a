use Rattle.casbin_run.proofs.SharedWork.{told_amid}
use Rattle.casbin_run.proofs.shared.PrintingTaker.take.Goals as goal

pub returns-in-Ok-clause-took : goal.returns-in-Ok-clause-took
returns-in-Ok-clause-took g c = λ told same. (c.in-Ok.ensures.printed told same, c.print_lines.ensures.counted)

pub returns-in-Err-clause-stopped : goal.returns-in-Err-clause-stopped
returns-in-Err-clause-stopped g c = rw c.take_stop_of.ensures (λ told same. told_amid _ _ _ _ told c.in-Err.stop (c.in-Err.ensures.stopped told same) c.print_lines.ensures.counted)
