use Rattle.std.proofs.Common.{map, take}
use Rattle.policy_state.specs.States.{tables}
use Rattle.script_read.specs.Said.{seen}
use Rattle.loaded_work.proofs.ShipLemmas.{AreDone}
use Rattle.loaded_work.proofs.shipped.do_items.Given as goal

abbrev pub invariant-loop-item : goal.invariant-loop-item
invariant-loop-item g l = AreDone (tables l.initial.desk.state) l.initial.desk.state.shapes (map seen (take l.item-index l.items)) l.desk (g.P.Finder.refusals l.initial.finder) (g.P.Finder.refusals l.finder)
