use Rattle.std.proofs.Common.{subst, sym}
use Rattle.live_pair.specs.Helps.Lines.{IsAdmin}
use Rattle.policy_desk.specs.Desks.{Work}
use Rattle.live_pair.proofs.admin.AdminOver.users_of.Goals as goal

pub invariant_of-self : goal.invariant_of-self
invariant_of-self g c =
    subst (λ (desk : Work). IsAdmin g.J.Naming.shapes g.J.Naming.opening g.J.Naming.first c.self.inside.line (g.W.Shows.shown c.self.inside.copies) c.self.inside.front desk) (sym c.users_of.ensures.same) c.self.invariant
