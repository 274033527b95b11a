use Rattle.policy_table.specs.Changes.{edited}
use Rattle.policy_table.specs.Slots.{slots_edited}
use Rattle.policy_table.proofs.CommitLemmas.{Lead}
use Rattle.policy_table.proofs.tables.Tables.commit.Given as goal

abbrev pub invariant-loop-step : goal.invariant-loop-step
invariant-loop-step l = Lead (edited l.fn.prepared l.fn.self.policy) (slots_edited l.fn.prepared l.fn.self.slots) l.step-iterator.rest.items l.self
