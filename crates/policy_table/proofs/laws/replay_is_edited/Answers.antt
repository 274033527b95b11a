use Rattle.policy_table.proofs.LawLemmas.{replayed}
use Rattle.policy_table.proofs.laws.replay_is_edited.Goals as goal

pub returns : goal.returns
returns c = replayed
