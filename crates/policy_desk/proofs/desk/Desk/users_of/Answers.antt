use Rattle.std.proofs.Common.{◌≡◌, None, subst, sym}
use Rattle.perm_base.specs.declared.shapes.TableId.TheVariants.{G}
use Rattle.policy_desk.specs.Desks.{Work}
use Rattle.policy_query.specs.Answers.{IsAnswer}
use Rattle.policy_query.specs.Found.{FindAsked}
use Rattle.policy_query.specs.Names.{names_refusal, users_answer}
use Rattle.policy_state.specs.States.{tables}
use Rattle.policy_table.specs.Tables.{rows}
use Rattle.policy_desk.proofs.DraftLemmas.{when_some}
use Rattle.policy_desk.proofs.desk.Desk.users_of.Goals as goal

pub users_there-requires-clause-passes : goal.users_there-requires-clause-passes
users_there-requires-clause-passes c =
    subst (λ (d : Work). names_refusal d.state.shapes c.args.relation c.args.domain.now ≡ None) (sym c.known_users.ensures.same)
    (when_some c.known_users.result c.in-Some.places c.in-Some.is (λ _. names_refusal c.args.self.now.state.shapes c.args.relation c.args.domain.now ≡ None) c.known_users.ensures.passes)

pub users_there-requires-clause-published : goal.users_there-requires-clause-published
users_there-requires-clause-published c =
    subst (λ (d : Work). d.drafts ≡ tables d.state) (sym c.known_users.ensures.same)
    (when_some c.known_users.result c.in-Some.places c.in-Some.is (λ _. c.args.self.now.drafts ≡ tables c.args.self.now.state) c.known_users.ensures.published)

pub users_there-requires-clause-found : goal.users_there-requires-clause-found
users_there-requires-clause-found c =
    subst (λ (d : Work). FindAsked 1 c.args.role.now c.args.domain.now (rows d.drafts (G c.args.relation)) c.as_slice.result.now) (sym c.known_users.ensures.same)
    (subst (FindAsked 1 c.args.role.now c.args.domain.now (rows c.args.self.now.drafts (G c.args.relation))) (sym c.as_slice.ensures.value)
    (when_some c.known_users.result c.in-Some.places c.in-Some.is (λ places. FindAsked 1 c.args.role.now c.args.domain.now (rows c.args.self.now.drafts (G c.args.relation)) places.items) c.known_users.ensures.found))

pub returns-in-Some-clause-answer : goal.returns-in-Some-clause-answer
returns-in-Some-clause-answer c = subst (λ (d : Work). IsAnswer (users_answer d.state.shapes (tables d.state) c.args.relation c.args.role.now c.args.domain.now) c.users_there.result) c.known_users.ensures.same c.users_there.ensures

pub returns-in-None-clause-answer : goal.returns-in-None-clause-answer
returns-in-None-clause-answer c = subst (λ (d : Work). IsAnswer (users_answer d.state.shapes (tables d.state) c.args.relation c.args.role.now c.args.domain.now) c.users_sought.result) c.known_users.ensures.same c.users_sought.ensures
