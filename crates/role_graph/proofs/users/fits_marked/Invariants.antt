use Rattle.std.proofs.Common.{◌-◌}
use Rattle.role_graph.specs.Helps.Kept.{linked_of}
use Rattle.role_graph.proofs.LeadLemmas.{FitsNoMarked}
use Rattle.role_graph.proofs.users.fits_marked.Given as goal

abbrev pub decreases-loop-at : goal.decreases-loop-at
decreases-loop-at l = 200000 - l.place

abbrev pub invariant-loop-at : goal.invariant-loop-at
invariant-loop-at l = FitsNoMarked (linked_of l.links) l.marks l.name l.place
