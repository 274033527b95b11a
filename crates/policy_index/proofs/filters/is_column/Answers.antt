use Rattle.std.proofs.lemmas.Bool.{ltb-true}
use Rattle.policy_index.proofs.filters.is_column.Goals as goal

pub returns : goal.returns
returns c = λ less. ltb-true c.args.column 64 less
