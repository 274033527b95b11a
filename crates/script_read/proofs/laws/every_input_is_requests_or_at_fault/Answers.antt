use Rattle.script_read.proofs.ScriptLemmas.{requests_or_fault}
use Rattle.script_read.proofs.laws.every_input_is_requests_or_at_fault.Goals as goal

pub returns-clause-always : goal.returns-clause-always
returns-clause-always c = requests_or_fault
