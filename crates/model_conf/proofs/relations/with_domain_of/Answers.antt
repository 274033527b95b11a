use Rattle.std.proofs.Common.{rules}
use Rattle.model_conf.specs.Relations.{with_domain_of}
use Rattle.model_conf.proofs.relations.with_domain_of.Goals as goal

pub returns-then-eq : goal.returns-then-eq
unfolding with_domain_of
returns-then-eq c = search rules

pub returns-then-eq-2 : goal.returns-then-eq-2
unfolding with_domain_of
returns-then-eq-2 c = search rules

pub returns-else-eq-2 : goal.returns-else-eq-2
unfolding with_domain_of
returns-else-eq-2 c = search rules
