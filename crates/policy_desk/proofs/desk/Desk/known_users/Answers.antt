use Rattle.std.proofs.Common.{◌≡◌, ◌∙◌, [], List, ℕ, None, Option, ap, subst, sym}
use Rattle.std.specs.Prelude.{IfSome}
use Rattle.perm_base.specs.declared.shapes.Shapes.{Shapes}
use Rattle.perm_base.specs.declared.shapes.TableId.TheVariants.{G}
use Rattle.policy_desk.specs.Desks.{IsDesk, Work}
use Rattle.policy_query.proofs.CallerLemmas.{names_within}
use Rattle.policy_query.specs.Found.{FindAsked}
use Rattle.policy_query.specs.Names.{names_refusal}
use Rattle.policy_state.specs.States.{tables}
use Rattle.policy_table.specs.Changes.{replay}
use Rattle.policy_table.specs.Tables.{Policy, rows}
use Rattle.policy_table.specs.declared.change.Change.{Change}
use Rattle.policy_desk.proofs.DraftLemmas.{some_always}
use Rattle.policy_desk.proofs.desk.Desk.known_users.Goals as goal

pub known_users-requires : goal.known_users-requires
known_users-requires c =
    let domain = c.args.domain.now in
    let none : names_refusal c.self.inside.state.shapes c.args.relation domain ≡ None =
    ap (λ (s : Shapes). names_refusal s c.args.relation domain) (sym c.shapes.ensures.shapes) ∙ ap (names_refusal c.shapes.result.now c.args.relation) (sym c.bytes_of.ensures) ∙ sym c.names_refusal.ensures ∙ c.in-None.is in
    record { columns = names_within c.self.inside.state.shapes c.self.inside.drafts c.args.relation domain c.self.invariant.sound.shaped none }

pub invariant_of-self : goal.invariant_of-self
invariant_of-self c =
    subst (λ (d : Policy). IsDesk (record { state = c.self.inside.state; pending = c.self.inside.pending.items; drafts = d; kept = c.self.inside.kept; floor = c.self.inside.floor })) (sym c.known_users.ensures.same) c.self.invariant

pub returns-clause-same : goal.returns-clause-same
returns-clause-same c = (λ j. record { state = c.self.inside.state; pending = c.self.inside.pending.items; drafts = c.known_users.ensures.same j; kept = c.self.inside.kept; floor = c.self.inside.floor }) ∙ c.self.view_is

pub returns-clause-passes : goal.returns-clause-passes
returns-clause-passes c =
    some_always c.known_users.result
    (ap (λ (d : Work). names_refusal d.state.shapes c.args.relation c.args.domain.now) (sym c.self.view_is) ∙ ap (λ (s : Shapes). names_refusal s c.args.relation c.args.domain.now) (sym c.shapes.ensures.shapes)
    ∙ ap (names_refusal c.shapes.result.now c.args.relation) (sym c.bytes_of.ensures) ∙ sym c.names_refusal.ensures ∙ c.in-None.is)

pub returns-clause-published : goal.returns-clause-published
returns-clause-published c =
    let none : c.self.inside.pending.items ≡ [] = sym c.deref.ensures.value ∙ c.has_edits.ensures c.if-has_edits.false in
    some_always c.known_users.result
    (subst (λ (d : Work). d.drafts ≡ tables d.state) c.self.view_is (c.self.invariant.drafts ∙ ap (λ (l : List (List Change)). replay l (tables c.self.inside.state)) none))

pub returns-clause-found : goal.returns-clause-found
returns-clause-found c =
    subst (λ (d : Work). IfSome c.known_users.result (λ places. FindAsked 1 c.args.role.now c.args.domain.now (rows d.drafts (G c.args.relation)) places.items)) c.self.view_is c.known_users.ensures.found
