use Rattle.std.proofs.Common.{◌≡◌, map, take, arith, ap, subst, sym, ◌∙◌}
use Rattle.std.proofs.lemmas.List.{take_all}
use Rattle.perm_base.specs.RoleShapes.{AreRoles}
use Rattle.model_conf.specs.Shapes.{fitted}
use Rattle.model_conf.proofs.ShapeLemmas.{fitted_roles}
use Rattle.model_conf.proofs.shapes.roles_of.Goals as goal

pub from_vec-requires : goal.from_vec-requires
from_vec-requires c =
    let all : take c.loop-shape.shape-index c.args.relations.now ≡ c.args.relations.now = take_all _ _ (omega arith) in
    subst AreRoles (sym (c.loop-shape.invariant ∙ ap (map (fitted c.args.names.now c.args.domains.now)) all)) (fitted_roles c.args.names.now c.args.domains.now c.args.relations.now c.requires)
