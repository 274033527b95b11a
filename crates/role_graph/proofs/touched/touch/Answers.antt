use Rattle.std.proofs.Common.{◌∙◌, sym}
use Rattle.role_graph.specs.Helps.Roles.{nodes_of}
use Rattle.role_graph.specs.Helps.Squares.{name_at}
use Rattle.role_meaning.proofs.CallerLemmas.{plain_fits}
use Rattle.role_graph.proofs.touched.touch.Goals as goal

pub returns-else-is_pattern-clause-fitting : goal.returns-else-is_pattern-clause-fitting
returns-else-is_pattern-clause-fitting c = λ a low within fits.
    c.touch_role.ensures.named a low within (plain_fits c.args.names (name_at (nodes_of c.args.roles.now) a) c.args.user.now (sym c.is_pattern.ensures ∙ c.if-is_pattern.false) fits)
