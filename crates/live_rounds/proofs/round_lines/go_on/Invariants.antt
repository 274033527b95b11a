use Rattle.std.proofs.Common.{◌≡◌, ◌++◌, length}
use Rattle.live_rounds.specs.Shares.{in_turn}
use Rattle.live_rounds.proofs.round_lines.go_on.Given as goal

abbrev pub invariant-loop-lists : goal.invariant-loop-lists
invariant-loop-lists l = l.current ++ in_turn l.lists.rest.items ≡ l.initial.current ++ in_turn l.initial.lists.rest.items

abbrev pub decreases-loop-lists : goal.decreases-loop-lists
decreases-loop-lists l = length l.lists.rest.items
