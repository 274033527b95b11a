use Rattle.std.proofs.Common.{◌-◌, length}
use Rattle.role_graph.proofs.Removals.{IsTaking}
use Rattle.role_graph.proofs.edits.take_out.Given as goal

abbrev pub decreases-loop-at : goal.decreases-loop-at
decreases-loop-at l = length l.texts.items - l.at

abbrev pub invariant-loop-at : goal.invariant-loop-at
invariant-loop-at l = IsTaking l.fn.gone l.fn.texts.items l.at l.texts.items l.gone
