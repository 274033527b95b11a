use Rattle.std.proofs.Common.{take}
use Rattle.decision.specs.Helps.FoundRows.{GathersNames}
use Rattle.decision.proofs.found_rows.gather_names.Given as goal

abbrev pub invariant-loop-name : goal.invariant-loop-name
invariant-loop-name l = GathersNames (take l.name-index l.name-items) l.index l.fn.found.items l.found.items
