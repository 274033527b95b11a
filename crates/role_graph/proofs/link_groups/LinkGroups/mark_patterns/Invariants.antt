use Rattle.role_graph.specs.Helps.Kept.{linked_of}
use Rattle.role_graph.proofs.WalkLemmas.{HasMarked}
use Rattle.role_graph.proofs.link_groups.LinkGroups.mark_patterns.Given as goal

abbrev pub invariant-loop-at : goal.invariant-loop-at
invariant-loop-at l = HasMarked (linked_of l.fn.self) l.name l.count l.at l.initial.reached l.initial.fresh l.reached l.fresh
