use Rattle.std.proofs.Common.{◌≡◌, [], ap, arith, length}
use Rattle.std.proofs.lemmas.Grind.{common_steps}
use Rattle.live_rounds.proofs.crew.next_of.Goals as goal

pub unreachable-requires : goal.unreachable-requires
unreachable-requires g c =
    let none : c.args.values.now.rest.items ≡ [] = grind (arith, common_steps) in
    absurd (omega (arith, c.requires, ap length none))
