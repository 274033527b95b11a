use Rattle.std.proofs.Common.{map, take}
use Rattle.policy_state.specs.States.{tables}
use Rattle.script_read.specs.Said.{seen}
use Rattle.desk_session.proofs.PlainLemmas.{IsUnderWay}
use Rattle.desk_session.proofs.plain.run_plain.Given as goal

abbrev pub invariant-loop-item : goal.invariant-loop-item
invariant-loop-item g l = IsUnderWay l.program l.initial.desk.state.shapes (tables l.initial.desk.state) (map seen (take l.item-index l.items)) l.desk l.number l.lines.items (g.P.Finder.refusals l.initial.finder) (g.P.Finder.refusals l.finder)
