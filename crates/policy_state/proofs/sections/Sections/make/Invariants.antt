use Rattle.std.proofs.Common.{take}
use Rattle.policy_state.specs.Helps.Kept.{AreSectionsOf}
use Rattle.policy_state.proofs.sections.Sections.make.Given as goal

abbrev pub invariant-loop-shape : goal.invariant-loop-shape
invariant-loop-shape l = AreSectionsOf l.shapes.limit (take l.shape-index l.roles) l.tables.policy l.sections.items
