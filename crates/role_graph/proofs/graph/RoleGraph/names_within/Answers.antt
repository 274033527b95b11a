use Rattle.std.proofs.Common.{arith}
use Rattle.role_graph.proofs.graph.RoleGraph.names_within.Goals as goal

pub listed-requires-clause-exact : goal.listed-requires-clause-exact
listed-requires-clause-exact c = c.self.invariant.exact (omega (arith, c.size.ensures.value, c.if-size-gt0.true))

pub listed-requires-clause-few : goal.listed-requires-clause-few
listed-requires-clause-few c =
    omega (arith, (c.self.invariant.exact (omega (arith, c.size.ensures.value, c.if-size-gt0.true))).long, c.size.ensures.value, c.size.ensures.few)
