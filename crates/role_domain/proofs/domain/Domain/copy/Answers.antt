use Rattle.role_domain.proofs.domain.Domain.copy.Goals as goal

pub returns : goal.returns
returns c = λ j. record {
  own = c.args.self.now.own;
  rows = c.in_ok-graph.ensures.rows j;
  names = c.in_ok-graph.ensures.names j;
  limit = c.in_ok-graph.ensures.limit j;
}
