use Rattle.policy_table.proofs.LawLemmas.{counted_edited, ordered_edited, ranked_edited}
use Rattle.policy_table.proofs.laws.edits_keep_order.Goals as goal

pub returns : goal.returns
returns c = record { order = ordered_edited; mark = ranked_edited; number = counted_edited }
