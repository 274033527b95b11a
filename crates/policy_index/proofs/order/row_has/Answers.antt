use Rattle.perm_base.specs.declared.shapes.TableId.TheVariants.{P}
use Rattle.policy_table.specs.Tables.{rows}
use Rattle.policy_index.proofs.OrderLemmas.{row_column, row_told}
use Rattle.policy_index.proofs.order.row_has.Goals as goal

pub field-requires : goal.field-requires
field-requires c = row_column c.args.column (rows c.args.tables.now.policy P) c.args.place c.row-rule.result.now c.requires.columns c.row-rule.ensures

pub returns : goal.returns
returns c = row_told c.args.column c.args.text.now c.field.result.now (rows c.args.tables.now.policy P) c.args.place c.row-rule.result.now c.eq.result c.row-rule.ensures c.field.ensures.value c.eq.ensures
