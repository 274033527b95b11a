use Rattle.std.proofs.Common.{ap, sym, ◌∙◌}
use Rattle.perm_base.specs.Patterns.{is_pattern}
use Rattle.perm_base.specs.declared.shapes.Fit.{Fit}
use Rattle.role_graph.proofs.ExactLemmas.{none_exact}
use Rattle.role_graph.proofs.link_groups.is_patterned.Goals as goal

pub returns-in-Exact : goal.returns-in-Exact
returns-in-Exact c = sym (ap (λ (names : Fit). is_pattern names c.args.user.now) c.in-Exact.is ∙ none_exact c.args.user.now)
