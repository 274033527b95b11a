use Rattle.std.proofs.Common.{ap}
use Rattle.live_pair.proofs.ShownLemmas.{appended}
use Rattle.live_pair.proofs.history_line.append.Goals as goal

pub returns-clause-shown : goal.returns-clause-shown
returns-clause-shown g c = ap (λ desk. desk.shown.value) c.append.ensures.desk

pub returns-clause-last : goal.returns-clause-last
returns-clause-last g c = appended (λ operation. operation.told) _ _ c.args.operation c.append.result c.append.ensures.pending
