use Rattle.std.proofs.Common.{◌-◌}
use Rattle.role_graph.specs.Helps.Kept.{linked_of}
use Rattle.role_graph.proofs.SeekLemmas.{HasNone}
use Rattle.role_graph.proofs.walk.has_sought.Given as goal

abbrev pub decreases-loop-at : goal.decreases-loop-at
decreases-loop-at l = 200000 - l.place

abbrev pub invariant-loop-at : goal.invariant-loop-at
invariant-loop-at l = HasNone (linked_of l.links) l.sought l.groups l.place
