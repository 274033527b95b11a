use Rattle.std.proofs.Common.{◌-◌}
use Rattle.role_graph.specs.Helps.Kept.{linked_of}
use Rattle.role_graph.proofs.WalkLemmas.{HasGone}
use Rattle.role_graph.proofs.walk.step.Given as goal

abbrev pub decreases-loop-at : goal.decreases-loop-at
decreases-loop-at l = 200000 - l.place

abbrev pub invariant-loop-at : goal.invariant-loop-at
invariant-loop-at l = HasGone (linked_of l.links) l.groups l.place l.initial.reached l.reached l.fresh
