use Rattle.std.proofs.Common.{◌≡◌, replicate}
use Rattle.dist_rows.proofs.rows.Row.open.Given as goal

abbrev pub invariant-loop : goal.invariant-loop
invariant-loop l = l.self ≡ record { cells = replicate l.counter 255; room = l.initial.self.room }
