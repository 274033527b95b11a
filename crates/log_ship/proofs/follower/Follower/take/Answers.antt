use Rattle.std.proofs.Common.{List, Option, Ok, subst}
use Rattle.log_ship.proofs.TakeLemmas.{takes_new}
use Rattle.log_ship.specs.Helps.Looks.{IsLook, IsNew}
use Rattle.policy_table.specs.declared.change.Change.{Change}
use Rattle.log_ship.proofs.follower.Follower.take.Goals as goal

pub returns-in-Some : goal.returns-in-Some
returns-in-Some c =
    let new : IsNew c.args.self.now c.args.packet.now c.in-Some.edit = subst (λ (o : Option (List Change)). IsLook c.args.self.now c.args.packet.now (Ok o)) c.in-Some.is c.in_ok-look.ensures in
    record { taken = takes_new c.args.self.now c.accept.new.self c.args.packet.now c.in-Some.edit c.accept.result new c.accept.ensures.answer c.accept.ensures.after }
