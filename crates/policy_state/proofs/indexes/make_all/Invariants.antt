use Rattle.policy_state.specs.Helps.Kept.{key_of}
use Rattle.policy_state.proofs.IndexStepLemmas.{Makes}
use Rattle.policy_table.specs.Changes.{edited}
use Rattle.policy_state.proofs.indexes.make_all.Given as goal

abbrev pub invariant-loop-step : goal.invariant-loop-step
invariant-loop-step l = Makes (edited l.fn.prepared l.fn.tables.policy) (key_of l.fn.index) l.step-iterator.rest.items l.tables l.index
