use Rattle.std.proofs.Common.{◌≡◌, ◌+◌, drop}
use Rattle.log_ship.specs.Helps.Waits.{run_len}
use Rattle.log_ship.proofs.waiting_edits.run_len.Given as goal

abbrev pub invariant-loop-at : goal.invariant-loop-at
invariant-loop-at l = run_len l.first l.numbers ≡ l.at + run_len l.next (drop l.at l.numbers)
