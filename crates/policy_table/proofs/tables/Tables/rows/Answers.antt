use Rattle.std.proofs.Common.{length, arith, ap, sym, ◌∙◌}
use Rattle.policy_table.proofs.TableLemmas.{nowhere_once, nowhere_rows}
use Rattle.policy_table.proofs.tables.Tables.rows.Goals as goal

pub returns-in-None-clause-once : goal.returns-in-None-clause-once
returns-in-None-clause-once c = nowhere_once c.args.self.now.policy c.args.table (sym c.place.ensures ∙ c.in-None.is)

pub returns-in-None-clause-few : goal.returns-in-None-clause-few
returns-in-None-clause-few c = omega (arith, ap length (nowhere_rows c.args.self.now.policy c.args.table (sym c.place.ensures ∙ c.in-None.is)))
