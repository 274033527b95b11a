use Rattle.std.proofs.Common.{◌≤◌, length}
use Rattle.live_rounds.proofs.PassingLemmas.{IsGoneTo}
use Rattle.live_rounds.specs.Stretches.{items_of}
use Rattle.script_read.specs.ItemLines.{said}
use Rattle.live_rounds.proofs.shares.behind.Given as goal

abbrev pub invariant-loop-found : goal.invariant-loop-found
invariant-loop-found l = IsGoneTo l.count l.found (items_of l.items) (said l.rest) × (l.found ≤ l.share)

abbrev pub decreases-loop-found : goal.decreases-loop-found
decreases-loop-found l = length (said l.rest)
