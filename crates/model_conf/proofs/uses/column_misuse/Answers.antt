use Rattle.model_conf.proofs.UseLemmas.{column_found, column_lacks}
use Rattle.model_conf.proofs.uses.column_misuse.Goals as goal

pub returns-in-Some : goal.returns-in-Some
returns-in-Some c = column_found c.args.columns.now c.args.at c.as_bytes.result.now c.args.column.now _ c.as_bytes.ensures.value c.in-Some.ensures

pub returns-in-None : goal.returns-in-None
returns-in-None c = column_lacks c.args.columns.now c.args.at c.as_bytes.result.now c.args.column.now c.as_bytes.ensures.value c.in-None.ensures
