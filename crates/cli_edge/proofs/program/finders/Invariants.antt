use Rattle.std.proofs.Common.{◌≡◌, length}
use Rattle.cli_edge.proofs.program.finders.Given as goal

abbrev pub invariant-loop : goal.invariant-loop
invariant-loop l = length l.finders.items ≡ l.counter
