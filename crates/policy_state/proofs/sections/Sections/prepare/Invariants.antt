use Rattle.policy_state.proofs.DraftLemmas.{Prepares}
use Rattle.policy_state.proofs.sections.Sections.prepare.Given as goal

abbrev pub invariant-loop-at : goal.invariant-loop-at
invariant-loop-at l = Prepares l.edits l.tables.policy l.fn.self l.self-inside.sections.items l.at l.prepared.items
