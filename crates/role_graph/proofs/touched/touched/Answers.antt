use Rattle.std.proofs.Common.{◌≡◌, ◌∙◌, get_or, sym, subst, arith}
use Rattle.std.proofs.lemmas.List.{get_or_default}
use Rattle.role_meaning.specs.Fits.{Fits}
use Rattle.role_graph.specs.Groups.{Group}
use Rattle.role_graph.specs.Helps.Roles.{nodes_of}
use Rattle.role_graph.specs.Helps.Squares.{name_at}
use Rattle.role_graph.specs.Helps.Walks.{no_group}
use Rattle.role_graph.proofs.touched.touched.Goals as goal

pub returns-clause-fitting : goal.returns-clause-fitting
returns-clause-fitting c = λ a group low within stands fits.
    let same : get_or c.args.edits.now stands.0 no_group ≡ group = get_or_default c.args.edits.now stands.0 no_group group stands.1 ∙ stands.2 in
    c.loop-place.invariant.fitting a stands.0 (omega (arith, stands.1, c.len-place-end.ensures.count, c.loop-place-test.false)) low within
    (subst (λ (g : Group). Fits c.args.names (name_at (nodes_of c.args.roles.now) a) g.user) (sym same) fits)
