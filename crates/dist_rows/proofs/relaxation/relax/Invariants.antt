use Rattle.std.proofs.Common.{◌≡◌, ◌+◌, ◌*◌, length}
use Rattle.dist_rows.specs.Helps.Rows.{AreRows, relaxed_to}
use Rattle.dist_rows.proofs.relaxation.relax.Given as goal

abbrev pub invariant-loop-group : goal.invariant-loop-group
invariant-loop-group g l = record {
  square : AreRows (length l.rows) 0 l.rows;
  relaxed : l.rows ≡ relaxed_to (l.group * 32) l.initial.rows l.a l.add l.v;
  steps : l.steps ≡ l.initial.steps + l.group;
}
