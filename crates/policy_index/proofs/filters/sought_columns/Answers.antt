use Rattle.policy_index.proofs.filters.sought_columns.Goals as goal

pub columns_of-requires-clause-first : goal.columns_of-requires-clause-first
columns_of-requires-clause-first c = c.is_column.ensures c.if-not-is_column.false

pub columns_of-requires-clause-few : goal.columns_of-requires-clause-few
columns_of-requires-clause-few c = c.is_column-2.ensures c.if-not-is_column-2.false
