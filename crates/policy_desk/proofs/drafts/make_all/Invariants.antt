use Rattle.policy_desk.proofs.DraftLemmas.{Makes}
use Rattle.policy_table.specs.Changes.{edited}
use Rattle.policy_desk.proofs.drafts.make_all.Given as goal

abbrev pub invariant-loop-step : goal.invariant-loop-step
invariant-loop-step l = Makes (edited l.fn.prepared l.fn.tables.policy) l.step-iterator.rest.items l.tables l.finders
