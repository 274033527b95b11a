use Rattle.std.proofs.Common.{◌≡◌, drop}
use Rattle.perm_base.specs.RoleShapes.{shape_of}
use Rattle.file_lint.proofs.policy_words.shape_of.Given as goal

abbrev pub invariant-loop-shape : goal.invariant-loop-shape
invariant-loop-shape l = shape_of (drop l.shape-index l.relations) l.number ≡ shape_of l.relations l.number
