use Rattle.std.proofs.Common.{◌≡◌, take}
use Rattle.std.specs.Str.{IsCharBoundary}
use Rattle.text_parts.specs.Blanks.{before_blanks}
use Rattle.text_parts.proofs.blanks.before_blanks.Given as goal

abbrev pub invariant-loop-end : goal.invariant-loop-end
invariant-loop-end l = record { boundary : IsCharBoundary l.text l.end; same : before_blanks (take l.end l.text) ≡ before_blanks l.text }

abbrev pub decreases-loop-end : goal.decreases-loop-end
decreases-loop-end l = l.end
