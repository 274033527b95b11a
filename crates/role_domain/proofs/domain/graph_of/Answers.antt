use Rattle.std.proofs.Common.{ap, arith, length}
use Rattle.role_graph.specs.Groups.{times}
use Rattle.role_graph.proofs.CallerLemmas.{as_long}
use Rattle.role_domain.proofs.domain.graph_of.Goals as goal

pub push_all-requires-clause-few : goal.push_all-requires-clause-few
push_all-requires-clause-few c = omega (arith, c.requires.few, ap length c.new-graph.ensures.rows)

pub push_all-requires-2-clause-few : goal.push_all-requires-2-clause-few
push_all-requires-2-clause-few c =
    omega (arith, c.requires.few, as_long c.push_all.new.graph.rows c.args.first.now (λ row. omega (arith, c.in_ok-push_all.ensures.rows row, ap (times row) c.new-graph.ensures.rows)))

pub returns-clause-rows : goal.returns-clause-rows
returns-clause-rows c = λ row. omega (arith, c.in_ok-graph.ensures.rows row, c.in_ok-push_all.ensures.rows row, c.in_ok-push_all-2.ensures.rows row, ap (times row) c.new-graph.ensures.rows)
