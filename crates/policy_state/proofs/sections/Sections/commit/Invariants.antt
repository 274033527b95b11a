use Rattle.policy_state.proofs.DraftLemmas.{Commits}
use Rattle.policy_state.proofs.sections.Sections.commit.Given as goal

abbrev pub invariant-loop-ready : goal.invariant-loop-ready
invariant-loop-ready l = Commits l.fn.self l.fn.prepared.items l.self-inside.sections.items l.at l.ready-iterator.rest.items
