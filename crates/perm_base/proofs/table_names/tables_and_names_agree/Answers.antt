use Rattle.perm_base.proofs.TableLemmas.{name_from_named, named_from_name}
use Rattle.perm_base.proofs.table_names.tables_and_names_agree.Goals as goal

pub returns-clause-named : goal.returns-clause-named
returns-clause-named c = named_from_name

pub returns-clause-only : goal.returns-clause-only
returns-clause-only c = name_from_named
