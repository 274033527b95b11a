use Rattle.role_graph.specs.Helps.Kept.{linked_of}
use Rattle.role_graph.proofs.SeekLemmas.{IsSeeking}
use Rattle.role_graph.proofs.walk.seek_far.Given as goal

abbrev pub invariant-loop-level : goal.invariant-loop-level
invariant-loop-level l = IsSeeking (linked_of l.links) l.sought l.fn.x l.level l.reached l.fresh
