use Rattle.std.proofs.Common.{List, length, map}
use Rattle.std.specs.List.{AllZip}
use Rattle.live_rounds.proofs.RoundsLemmas.{AreDoneTo}
use Rattle.regex_gate.specs.Refusals.{IsUsed}
use Rattle.script_read.specs.ItemLines.{said}
use Rattle.script_read.specs.Said.{Said}
use Rattle.script_read.specs.Script.{IsScript}
use Rattle.live_rounds.proofs.rounds.run_rounds.Given as goal

-- the rounds so far are done and their lines taken, and the others are left; the finders were used
abbrev pub invariant-loop-round : goal.invariant-loop-round
invariant-loop-round g l = record {
  done : (items : List Said) → IsScript l.json l.script items
      → AreDoneTo l.program g.J.Naming.shapes g.J.Naming.opening l.workers items (map g.P.Finder.refusals l.initial.finders.items) g.T.Taker.took l.initial.to (said l.rest) l.before (map g.P.Finder.refusals l.finders.items) l.admin l.to;
  used : AllZip IsUsed (map g.P.Finder.refusals l.initial.finders.items) (map g.P.Finder.refusals l.finders.items);
}

-- what is left of the script
abbrev pub decreases-loop-round : goal.decreases-loop-round
decreases-loop-round g l = length (said l.rest)
