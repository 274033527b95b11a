use Rattle.std.proofs.Common.{◌-◌, ◌≤◌, length}
use Rattle.policy_table.proofs.rank_hints.RankHints.count_up_to.Given as goal

abbrev pub invariant-loop-low : goal.invariant-loop-low
invariant-loop-low l = record {
  order : l.low ≤ l.high;
  within : l.high ≤ length l.order.ids;
}

abbrev pub decreases-loop-low : goal.decreases-loop-low
decreases-loop-low l = l.high - l.low
