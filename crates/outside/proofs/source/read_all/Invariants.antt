use Rattle.std.proofs.Common.{length, ◌-◌, ◌+◌}
use Rattle.outside.proofs.PieceLemmas.{IsRead}
use Rattle.outside.proofs.source.read_all.Given as goal

abbrev pub invariant-loop-bytes : goal.invariant-loop-bytes
invariant-loop-bytes g l = IsRead l.most (g.S.Source.left l.initial.source) (g.S.Source.left l.source) (g.S.Source.ends l.initial.source) (g.S.Source.ends l.source) l.bytes.items (g.S.Source.faults l.initial.source) (g.S.Source.faults l.source)

abbrev pub decreases-loop-bytes : goal.decreases-loop-bytes
decreases-loop-bytes g l = l.most + 1 - length l.bytes.items
