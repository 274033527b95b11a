-- Lines that are counted, those of each round once it is over.
use Rattle.std.specs.Prelude.{◌≡◌, ◌+◌, List, length}
use Rattle.answer_lines.specs.declared.answer.Line.{Line}
use Rattle.demo_run.specs.Summary.{counted_behind}
use Rattle.demo_run.specs.declared.counts.Tally.{Tally}

-- lines were counted behind others
pub record IsTallied (old : Tally) (lines : List Line) (new : Tally) : Type 0 where
  pub items : new.items ≡ old.items + length lines
  pub counts : new.counts ≡ counted_behind old.counts lines
