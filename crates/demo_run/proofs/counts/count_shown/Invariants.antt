use Rattle.std.proofs.Common.{◌≡◌, take}
use Rattle.demo_run.proofs.CountLemmas.{counted_by}
use Rattle.demo_run.proofs.counts.count_shown.Given as goal

abbrev pub invariant-loop-one : goal.invariant-loop-one
invariant-loop-one l = l.counts ≡ counted_by (λ shown. shown) l.initial.tally.counts (take l.one-index l.shown)
