use Rattle.std.proofs.Common.{List, ap, ◌∙◌, arith}
use Rattle.std.specs.List.{count_by}
use Rattle.policy_table.specs.Helps.Counts.{inserts, removes}
use Rattle.policy_table.specs.declared.change.Change.{Change}
use Rattle.policy_table.proofs.CountLemmas.{length_edited}
use Rattle.policy_table.proofs.LawLemmas.{counted_edited, order_of}
use Rattle.policy_table.proofs.rows_after.rows_after.Goals as goal

pub overflow_sub-result : goal.overflow_sub-result
overflow_sub-result c =
    let policy = c.args.tables.now.policy in
    let same = c.as_slice-changes.ensures in
    let counted = length_edited c.args.edit.now policy c.args.table (order_of policy c.kept.ensures) c.requires in
    omega (arith, counted, ap (λ (changes : List Change). count_by (inserts c.args.table) changes) same, ap (λ (changes : List Change). count_by (removes c.args.table) changes) same)

pub returns-clause-value : goal.returns-clause-value
returns-clause-value c =
    let policy = c.args.tables.now.policy in
    let same = c.as_slice-changes.ensures in
    let counted = length_edited c.args.edit.now policy c.args.table (order_of policy c.kept.ensures) c.requires in
    omega (arith, counted, ap (λ (changes : List Change). count_by (inserts c.args.table) changes) same, ap (λ (changes : List Change). count_by (removes c.args.table) changes) same)

pub returns-clause-still_nine : goal.returns-clause-still_nine
returns-clause-still_nine c = counted_edited c.args.edit.now c.args.tables.now.policy ∙ c.kept.ensures.lists.counted
