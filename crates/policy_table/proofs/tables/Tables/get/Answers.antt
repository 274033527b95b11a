use Rattle.std.proofs.Common.{sym, arith}
use Rattle.std.proofs.lemmas.Option.{slice_get_past}
use Rattle.policy_table.specs.Tables.{rows}
use Rattle.policy_table.proofs.tables.Tables.get.Goals as goal

pub returns-then-at-len : goal.returns-then-at-len
returns-then-at-len c = sym (slice_get_past (rows c.args.self.now.policy c.args.table) c.args.at (omega (arith, c.len.ensures.value, c.if-at-len.true)))

pub returns : goal.returns
returns c = sym c.row.ensures
