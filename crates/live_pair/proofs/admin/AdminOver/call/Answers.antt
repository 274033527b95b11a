use Rattle.live_pair.proofs.LineLemmas.{admin_called}
use Rattle.live_pair.proofs.admin.AdminOver.call.Goals as goal

pub invariant_of-self : goal.invariant_of-self
invariant_of-self g c =
    admin_called g.J.Naming.shapes g.J.Naming.opening g.J.Naming.first c.self.inside.line (g.W.Shows.shown c.self.inside.copies) c.self.inside.front c.self.inside.desk c.call.new.self c.args.call.now c.call.result c.self.invariant
    c.call.ensures.done c.call.ensures.refused
