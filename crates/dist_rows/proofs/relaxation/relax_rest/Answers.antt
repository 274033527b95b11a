use Rattle.std.proofs.Common.{ℕ, sym, subst}
use Rattle.dist_rows.specs.Helps.Rows.{AreRows}
use Rattle.dist_rows.proofs.relaxation.relax_rest.Goals as goal

pub loop-b-preserved : goal.loop-b-preserved
loop-b-preserved c = record {
  square = subst (λ (n : ℕ). AreRows n 0 c.relax_cell.new.rows) (sym c.relax_cell.auto.rows) c.relax_cell.ensures.square;
  relaxed = λ old are first is. c.relax_cell.ensures.relaxed old are first (c.loop-b.invariant.relaxed old are first is);
}
