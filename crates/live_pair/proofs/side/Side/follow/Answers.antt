use Rattle.std.proofs.Common.{sym, ◌∙◌}
use Rattle.live_pair.proofs.SideLemmas.{up_to_published}
use Rattle.live_pair.proofs.StartLemmas.{is_closed}
use Rattle.live_pair.proofs.side.Side.follow.Goals as goal

pub invariant_of-self : goal.invariant_of-self
invariant_of-self g c =
    let told = c.self.inside.told in
    let more = c.again.ensures ∙ c.if-not-is_published_in.ensures in (
      up_to_published g.J.Naming.shapes g.J.Naming.opening g.J.Naming.first told c.again.result c.self.inside.state more (sym c.if-self.false ∙ c.self.invariant.1) c.self.invariant.0,
      is_closed told c.again.result more,
    )
