use Rattle.std.proofs.Common.{List, length}
use Rattle.std.specs.Prelude.{string_bytes}
use Rattle.policy_state.specs.States.{tables}
use Rattle.script_read.specs.ItemLines.{said}
use Rattle.script_read.specs.Said.{Said}
use Rattle.script_read.specs.Script.{IsScript}
use Rattle.loaded_work.proofs.ItemLemmas.{AreServedOf}
use Rattle.loaded_work.proofs.PrintLemmas.{seen_between}
use Rattle.loaded_work.proofs.session.print_items.Given as goal

abbrev pub invariant-loop-values : goal.invariant-loop-values
invariant-loop-values g l = record {
  served : (items : List Said) → IsScript l.json l.script items → AreServedOf l.program l.initial.desk.state.shapes (tables l.initial.desk.state) items (said l.left) l.desk l.number (string_bytes l.text)
      (seen_between (g.K.Sink.taken l.initial.out) (g.K.Sink.taken l.out) (g.K.Sink.faults l.initial.out) (g.K.Sink.faults l.out) (g.P.Finder.refusals l.initial.finder) (g.P.Finder.refusals l.finder));
}

abbrev pub decreases-loop-values : goal.decreases-loop-values
decreases-loop-values g l = length (said l.left)
