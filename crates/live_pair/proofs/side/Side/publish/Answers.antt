use Rattle.std.proofs.Common.{sym, ◌∙◌}
use Rattle.live_pair.proofs.SideLemmas.{up_to_maybe}
use Rattle.live_pair.proofs.side.Side.publish.Goals as goal

pub invariant_of-self : goal.invariant_of-self
invariant_of-self g c =
    up_to_maybe g.J.Naming.shapes g.J.Naming.opening g.J.Naming.first c.self.inside.told c.publish-done.new.self c.self.inside.state c.publish-done.result c.publish-done.ensures (sym c.if-self.false ∙ c.self.invariant.1) c.self.invariant.0
