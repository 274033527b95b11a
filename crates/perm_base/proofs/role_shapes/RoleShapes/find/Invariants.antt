use Rattle.std.proofs.Common.{◌≡◌, drop}
use Rattle.perm_base.specs.RoleShapes.{shape_of}
use Rattle.perm_base.proofs.role_shapes.RoleShapes.find.Given as goal

abbrev pub invariant-loop-shape : goal.invariant-loop-shape
invariant-loop-shape l = shape_of (drop l.shape-index l.shape-items) l.number ≡ shape_of l.shape-items l.number
