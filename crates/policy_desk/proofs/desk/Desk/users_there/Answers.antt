use Rattle.std.proofs.Common.{◌≡◌, ◌<◌, ◌∙◌, All, List, ℕ, None, Ok, Option, ap, length, subst, sym}
use Rattle.std.specs.Option.{option_copied}
use Rattle.std.specs.Prelude.{is_some}
use Rattle.perm_base.specs.declared.shapes.TableId.TheVariants.{G}
use Rattle.policy_desk.specs.Desks.{Work}
use Rattle.policy_query.proofs.CallerLemmas.{names_within}
use Rattle.policy_query.specs.Answers.{answer_unless}
use Rattle.policy_query.specs.Found.{FindAsked}
use Rattle.policy_query.specs.Names.{named_columns, names_beside, names_refusal}
use Rattle.policy_query.specs.declared.refused.QueryRefused.{QueryRefused}
use Rattle.policy_state.specs.States.{tables}
use Rattle.policy_table.specs.Tables.{Fields, Policy, rows}
use Rattle.policy_desk.proofs.desk.Desk.users_there.Goals as goal

pub users_at-requires-clause-columns : goal.users_at-requires-clause-columns
users_at-requires-clause-columns c =
    let none : names_refusal c.self.inside.state.shapes c.args.relation c.args.domain.now ≡ None = ap (λ (d : Work). names_refusal d.state.shapes c.args.relation c.args.domain.now) c.self.view_is ∙ c.requires.passes in
    subst (λ (p : Policy). All (λ (rule : Fields). named_columns (is_some (option_copied c.bytes_of.result)) < length rule) (rows p (G c.args.relation))) (sym c.tables-tables.ensures)
    (subst (λ (d : Option (List ℕ)). All (λ (rule : Fields). named_columns (is_some d) < length rule) (rows c.self.inside.drafts (G c.args.relation))) (sym c.bytes_of.ensures)
    (names_within c.self.inside.state.shapes c.self.inside.drafts c.args.relation c.args.domain.now c.self.invariant.sound.shaped none))

pub users_at-requires-clause-found : goal.users_at-requires-clause-found
users_at-requires-clause-found c =
    let all = rows c.tables-tables.result.now.policy (G c.args.relation) in
    let same : c.args.self.now.drafts ≡ c.tables-tables.result.now.policy = ap (λ (d : Work). d.drafts) (sym c.self.view_is) ∙ sym c.tables-tables.ensures in
    subst (λ (d : Option (List ℕ)). FindAsked 1 c.bytes.result.now d all c.args.places.now) (sym c.bytes_of.ensures)
    (subst (λ (r : List ℕ). FindAsked 1 r c.args.domain.now all c.args.places.now) (sym c.bytes.ensures.value)
    (subst (λ (p : Policy). FindAsked 1 c.args.role.now c.args.domain.now (rows p (G c.args.relation)) c.args.places.now) same c.requires.found))

pub returns : goal.returns
returns c =
    let X : Policy → List ℕ → Option (List ℕ) → List (List ℕ) = λ (p : Policy) (r : List ℕ) (d : Option (List ℕ)). names_beside 1 0 r d (rows p (G c.args.relation)) in
    let same : tables c.args.self.now.state ≡ c.tables-tables.result.now.policy = sym c.requires.published ∙ ap (λ (d : Work). d.drafts) (sym c.self.view_is) ∙ sym c.tables-tables.ensures in
    ap (λ (o : Option QueryRefused). answer_unless o (X (tables c.args.self.now.state) c.args.role.now c.args.domain.now)) c.requires.passes
    ∙ ap (λ (names : List (List ℕ)). Ok names) ((λ j. X (same j) (sym c.bytes.ensures.value j) (sym c.bytes_of.ensures j)) ∙ sym c.in_ok-users_at.ensures)
