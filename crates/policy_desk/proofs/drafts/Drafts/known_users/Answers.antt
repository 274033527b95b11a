use Rattle.std.proofs.Common.{◌∙◌, List, ℕ, subst}
use Rattle.perm_base.specs.declared.shapes.TableId.TheVariants.{G}
use Rattle.policy_table.specs.Tables.{rows}
use Rattle.edit_calls.specs.Found.{FindFitting}
use Rattle.policy_query.specs.Found.{FindAsked}
use Rattle.policy_desk.proofs.DraftLemmas.{found_users, where_some}
use Rattle.policy_desk.proofs.drafts.Drafts.known_users.Goals as goal

pub returns-clause-found : goal.returns-clause-found
returns-clause-found c =
    let all = rows c.args.self.now (G c.args.relation) in
    where_some c.places.result (λ places. FindFitting 1 c.as_slice.result.now all places.items) (λ places. FindAsked 1 c.args.role.now c.args.domain.now all places.items)
    (λ places finds.
    found_users c.args.role.now c.args.domain.now all places.items c.requires.columns
    (subst (λ (values : List (List ℕ)). FindFitting 1 values all places.items) (c.as_slice.ensures.value ∙ c.in-Ok.ensures) finds)) c.places.ensures.found
