use Rattle.std.proofs.lemmas.List.Elements.{All-from_recursion}
use Rattle.script_read.proofs.NamedLemmas.{requests_named, script_named}
use Rattle.script_read.proofs.laws.items_are_named.Goals as goal

pub returns-clause-script : goal.returns-clause-script
returns-clause-script c json bytes items is = All-from_recursion _ items (script_named json bytes items is)

pub returns-clause-requests : goal.returns-clause-requests
returns-clause-requests c json bytes items is = All-from_recursion _ items (requests_named json bytes items is)
