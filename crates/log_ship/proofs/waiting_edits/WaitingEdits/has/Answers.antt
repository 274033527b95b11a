use Rattle.std.proofs.Common.{ℕ, ap, eqb, ◌∙◌}
use Rattle.std.specs.List.{list_any}
use Rattle.log_ship.proofs.WaitLemmas.{waits_held}
use Rattle.log_ship.specs.Taken.{waits}
use Rattle.log_ship.proofs.waiting_edits.WaitingEdits.has.Goals as goal

pub returns : goal.returns
returns c =
    c.contains.ensures.value ∙ ap (list_any (λ (n : ℕ). eqb n c.args.number)) c.deref.ensures.value
    ∙ waits_held c.args.number c.self.inside.numbers.items c.self.inside.edits.items c.self.invariant ∙ ap (waits c.args.number) c.self.view_is
