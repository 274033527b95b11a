use Rattle.std.proofs.Common.{length}
use Rattle.live_rounds.proofs.BesideLemmas.{AreDoneUpTo}
use Rattle.script_read.specs.ItemLines.{said}
use Rattle.live_rounds.proofs.beside.answer_others.Given as goal

abbrev pub invariant-loop-replies : goal.invariant-loop-replies
invariant-loop-replies g l = AreDoneUpTo g.J.Naming.shapes g.J.Naming.opening (said l.items) l.initial.admin (said l.left) l.admin l.replies l.kinds.items

abbrev pub decreases-loop-replies : goal.decreases-loop-replies
decreases-loop-replies g l = length (said l.left)
