use Rattle.std.proofs.Common.{◌≤◌, List, ℕ, sym, subst}
use Rattle.role_graph.specs.Helps.Roles.{count_of}
use Rattle.role_graph.proofs.Tallies.{next_counted}
use Rattle.role_graph.proofs.roles.Roles.take_all.Goals as goal

pub take-requires : goal.take-requires
take-requires c =
    subst (λ (role : List ℕ). 1 ≤ count_of c.loop-role.self role) (sym c.bytes.ensures.value)
    (next_counted c.args.roles.now c.loop-role.role-index c.role-item.result (count_of c.loop-role.self) (count_of c.args.self.now) c.loop-role-test.true c.role-item.is c.loop-role.invariant.counted c.requires)
