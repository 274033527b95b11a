use Rattle.std.proofs.Common.{◌≡◌, ◌+◌, ◌≤◌, drop}
use Rattle.version_log.proofs.log.Log.move_start.Given as goal

abbrev pub invariant-loop : goal.invariant-loop
invariant-loop l = record {
  start : l.self.start ≡ l.fn.self.start + l.counter;
  until : l.self.start ≤ l.to;
  tail : l.self.tail ≡ drop l.counter l.fn.self.tail;
  spare : l.fn.self.spare ≤ l.self.spare;
}
