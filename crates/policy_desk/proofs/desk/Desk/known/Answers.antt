use Rattle.std.proofs.Common.{◌∙◌, subst, sym}
use Rattle.edit_calls.specs.Found.{AreKnown}
use Rattle.perm_base.specs.declared.shapes.Shapes.{Shapes}
use Rattle.policy_desk.specs.Desks.{IsDesk, Work}
use Rattle.policy_table.specs.Tables.{Policy}
use Rattle.policy_desk.proofs.desk.Desk.known.Goals as goal

pub invariant_of-self : goal.invariant_of-self
invariant_of-self c =
    subst (λ (d : Policy). IsDesk (record { state = c.self.inside.state; pending = c.self.inside.pending.items; drafts = d; kept = c.self.inside.kept; floor = c.self.inside.floor })) (sym c.known.ensures.same) c.self.invariant

pub returns-clause-same : goal.returns-clause-same
returns-clause-same c = (λ j. record { state = c.self.inside.state; pending = c.self.inside.pending.items; drafts = c.known.ensures.same j; kept = c.self.inside.kept; floor = c.self.inside.floor }) ∙ c.self.view_is

pub returns-clause-known : goal.returns-clause-known
returns-clause-known c =
    subst (λ (d : Work). AreKnown d.state.shapes d.drafts c.known.result c.args.call.now) c.self.view_is
    (subst (λ (s : Shapes). AreKnown s c.self.inside.drafts c.known.result c.args.call.now) c.shapes.ensures.shapes c.known.ensures.known)
