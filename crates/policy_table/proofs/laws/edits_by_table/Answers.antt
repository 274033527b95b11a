use Rattle.policy_table.proofs.LawLemmas.{applies_by_table, rows_by_table}
use Rattle.policy_table.proofs.laws.edits_by_table.Goals as goal

pub returns-clause-rows : goal.returns-clause-rows
returns-clause-rows c = λ changes policy table. rows_by_table table changes policy

pub returns-clause-apply : goal.returns-clause-apply
returns-clause-apply c = λ changes policy table possible. applies_by_table table changes policy possible
