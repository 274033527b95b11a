use Rattle.std.proofs.Common.{◌≡◌, ◌-◌, length, drop}
use Rattle.std.specs.Str.{IsCharBoundary}
use Rattle.text_parts.specs.Blanks.{behind_blanks}
use Rattle.text_parts.proofs.blanks.behind_blanks.Given as goal

abbrev pub invariant-loop-at : goal.invariant-loop-at
invariant-loop-at l = record { boundary : IsCharBoundary l.text l.at; same : behind_blanks (drop l.at l.text) ≡ behind_blanks l.text }

abbrev pub decreases-loop-at : goal.decreases-loop-at
decreases-loop-at l = length l.bytes - l.at
