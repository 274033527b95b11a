use Rattle.std.proofs.Common.{sym, ◌∙◌}
use Rattle.policy_table.specs.Slots.{slots}
use Rattle.policy_table.specs.Tables.{rows}
use Rattle.policy_table.proofs.TableLemmas.{found_are, nine_slots, none_are, nowhere_rows, nowhere_slots}
use Rattle.policy_table.proofs.tables.Tables.by_slot.Goals as goal

pub returns-in-Some-clause-stand : goal.returns-in-Some-clause-stand
returns-in-Some-clause-stand c = found_are c.args.table c.in-Some.at _ c.index-self-at.result c.self.invariant c.self.view_is c.place.ensures c.in-Some.is c.by_slot.ensures.stand

pub returns-in-Some-clause-nine : goal.returns-in-Some-clause-nine
returns-in-Some-clause-nine c = nine_slots c.self.invariant c.self.view_is

pub returns-in-None-clause-stand : goal.returns-in-None-clause-stand
returns-in-None-clause-stand c =
    none_are (slots c.args.self.now c.args.table) (rows c.args.self.now.policy c.args.table) (nowhere_slots c.args.self.now c.args.table (sym c.place.ensures ∙ c.in-None.is)) (nowhere_rows c.args.self.now.policy c.args.table (sym c.place.ensures ∙ c.in-None.is))

pub returns-in-None-clause-nine : goal.returns-in-None-clause-nine
returns-in-None-clause-nine c = nine_slots c.self.invariant c.self.view_is
