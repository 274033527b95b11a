use Rattle.role_graph.proofs.LinkLemmas.{FitsNone}
use Rattle.role_graph.proofs.link_groups.LinkGroups.has_pattern_for.Given as goal

abbrev pub invariant-loop-at : goal.invariant-loop-at
invariant-loop-at l = FitsNone l.fn.self l.name l.at
