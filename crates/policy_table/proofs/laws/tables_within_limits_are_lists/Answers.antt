use Rattle.policy_table.proofs.SoundLemmas.{are_lists}
use Rattle.policy_table.proofs.laws.tables_within_limits_are_lists.Goals as goal

pub returns : goal.returns
returns c = are_lists
