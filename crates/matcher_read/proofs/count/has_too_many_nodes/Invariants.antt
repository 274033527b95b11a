use Rattle.std.proofs.Common.{◌≡◌, ◌+◌, ◌≤◌, length}
use Rattle.matcher_read.specs.Helps.Counts.{node_count}
use Rattle.matcher_read.specs.Matcher.{most_nodes}
use Rattle.matcher_read.proofs.count.has_too_many_nodes.Given as goal

abbrev pub invariant-loop-next : goal.invariant-loop-next
invariant-loop-next l = (l.nodes ≤ most_nodes) × (l.nodes + node_count l.tokens.tokens ≡ node_count l.initial.tokens.tokens)

abbrev pub decreases-loop-next : goal.decreases-loop-next
decreases-loop-next l = length l.tokens.tokens
