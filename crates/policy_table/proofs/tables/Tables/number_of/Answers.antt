use Rattle.std.proofs.Common.{position, ap, sym, ◌∙◌}
use Rattle.policy_table.specs.Tables.{same}
use Rattle.policy_table.proofs.TableLemmas.{nowhere_rows}
use Rattle.policy_table.proofs.tables.Tables.number_of.Goals as goal

pub returns-in-None : goal.returns-in-None
returns-in-None c = sym (ap (λ l. position (same c.args.rule.now) l) (nowhere_rows c.args.self.now.policy c.args.table (sym c.place.ensures ∙ c.in-None.is)))
