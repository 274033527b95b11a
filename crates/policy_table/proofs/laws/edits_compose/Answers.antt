use Rattle.policy_table.proofs.LawLemmas.{applies_both, edited_both}
use Rattle.policy_table.proofs.laws.edits_compose.Goals as goal

pub returns-clause-made : goal.returns-clause-made
returns-clause-made c = edited_both

pub returns-clause-apply : goal.returns-clause-apply
returns-clause-apply c = applies_both
