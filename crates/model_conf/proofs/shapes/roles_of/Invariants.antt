use Rattle.std.proofs.Common.{◌≡◌, map, take}
use Rattle.model_conf.specs.Shapes.{fitted}
use Rattle.model_conf.proofs.shapes.roles_of.Given as goal

abbrev pub invariant-loop-shape : goal.invariant-loop-shape
invariant-loop-shape l = l.shapes.items ≡ map (fitted l.names l.domains) (take l.shape-index l.relations)
