use Rattle.std.proofs.Common.{sym, ◌∙◌}
use Rattle.policy_index.proofs.FilterLemmas.{column_closed, column_open}
use Rattle.policy_index.proofs.filters.push_column.Goals as goal

pub returns-then-is_empty : goal.returns-then-is_empty
returns-then-is_empty c = column_open c.args.columns.now.items c.args.column c.args.value.now (sym c.is_empty.ensures ∙ c.if-is_empty.true)

pub returns : goal.returns
returns c = column_closed c.args.columns.now.items c.push.new.self.items c.args.column c.args.value.now (sym c.is_empty.ensures ∙ c.if-is_empty.false) c.in_ok-push.ensures.items
