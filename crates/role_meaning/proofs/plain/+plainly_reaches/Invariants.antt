use Rattle.std.proofs.Common.{◌-◌, drop, option_copied}
use Rattle.role_meaning.proofs.Tried.{LeftToTry}
use Rattle.role_meaning.proofs.plain.+plainly_reaches.Given as goal

abbrev pub decreases-plainly_reaches : goal.decreases-plainly_reaches
decreases-plainly_reaches l = l.links

abbrev pub invariant-loop-row : goal.invariant-loop-row
invariant-loop-row l = LeftToTry l.shape l.rows (drop l.row-index l.rows) (option_copied l.domain) (l.links - 1) l.x l.y
