use Rattle.std.proofs.Common.{length, position, arith, ap, sym, ◌∙◌}
use Rattle.policy_table.specs.Helps.Rows.{Rows}
use Rattle.policy_table.specs.Tables.{same}
use Rattle.policy_table.proofs.table.Table.slot_of.Goals as goal

pub overflow_cast-result : goal.overflow_cast-result
overflow_cast-result c = omega (arith, c.in-Some.ensures.within, c.len-few.ensures.slots, ap (λ (t : Rows). length t.slots) c.self.view_is, c.len-few.ensures.few)

pub returns-in-Some : goal.returns-in-Some
returns-in-Some c = sym c.in-Some.is ∙ c.get_index_of.ensures.index ∙ ap (λ (t : Rows). position (same c.args.rule.now) t.slots) c.self.view_is

pub returns-in-None : goal.returns-in-None
returns-in-None c = sym c.in-None.is ∙ c.get_index_of.ensures.index ∙ ap (λ (t : Rows). position (same c.args.rule.now) t.slots) c.self.view_is
