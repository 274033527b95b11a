use Rattle.run_status.specs.Messages.{line_of}
use Rattle.enforce_core.proofs.LineLemmas.{told_some}
use Rattle.enforce_core.proofs.lines.line_of_stop.Goals as goal

pub returns : goal.returns
returns c = told_some c.push_stop.new.err.bytes.items c.new-bytes.result.items (line_of c.args.stop) c.in-Ok.ensures.took c.new-bytes.ensures.items
