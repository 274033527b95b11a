use Rattle.run_status.proofs.LineLemmas.{one_status}
use Rattle.run_status.proofs.laws.line_tells_the_status.Goals as goal

pub returns : goal.returns
returns c = one_status
