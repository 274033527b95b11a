use Rattle.script_read.proofs.ScriptLemmas.{one_list}
use Rattle.script_read.proofs.laws.input_says_one_list_of_requests.Goals as goal

pub returns : goal.returns
returns c = one_list
