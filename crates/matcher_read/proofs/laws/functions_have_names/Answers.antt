use Rattle.matcher_read.proofs.FunctionLemmas.{own_name, names_differ}
use Rattle.matcher_read.proofs.laws.functions_have_names.Goals as goal

pub returns-clause-found : goal.returns-clause-found
returns-clause-found c = own_name

pub returns-clause-distinct : goal.returns-clause-distinct
returns-clause-distinct c = names_differ
