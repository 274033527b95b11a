use Rattle.std.proofs.Common.{◌≡◌, ◌<◌, List, length}
use Rattle.dist_rows.specs.Helps.Rows.{AreRows, RowSeen, relaxed_to}
use Rattle.dist_rows.proofs.relaxation.relax_rest.Given as goal

abbrev pub invariant-loop-b : goal.invariant-loop-b
invariant-loop-b l = record {
  square : AreRows (length l.rows) 0 l.rows;
  relaxed : (old : List RowSeen) → AreRows (length old) 0 old → l.a < length old → l.initial.rows ≡ relaxed_to l.at old l.a l.add l.v → l.rows ≡ relaxed_to l.b old l.a l.add l.v;
}
