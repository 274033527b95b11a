use Rattle.std.proofs.Common.{◌≤◌, ◌+◌, ◌∙◌, Bool, List, IsTrue, length, ap, subst, sym}
use Rattle.std.specs.Prelude.{◌↔◌, All}
use Rattle.std.specs.Option.{option_copied}
use Rattle.policy_table.specs.Tables.{Fields}
use Rattle.role_domain.specs.Relations.{HasFewRoles, TellsRows, asked_rows}
use Rattle.role_domain.specs.Sections.{IsSectionOf, Section}
use Rattle.role_domain.proofs.AskLemmas.{copied_some, linked_nowhere, linked_there, steps_there}
use Rattle.role_meaning.specs.Links.{IsLinked}
use Rattle.role_domain.proofs.section.RoleSection.linked.Goals as goal

pub distance-requires-clause-columns : goal.distance-requires-clause-columns
distance-requires-clause-columns g c = subst (All (λ (row : Fields). 2 ≤ length row)) (sym c.deref.ensures.value) c.self.invariant.columns

pub returns-in-Some-clause-found : goal.returns-in-Some-clause-found
returns-in-Some-clause-found g c =
    subst
    (λ (s : Section). (all : List Fields) → IsSectionOf s all → IsTrue c.linked.result ↔ IsLinked s.shape all s.limit (option_copied c.args.domain) c.args.x.now c.args.y.now)
    c.self.view_is
    (λ all sound. linked_there _ all sound (option_copied c.args.domain) c.asked-text.result.now (copied_some c.args.domain ∙ c.requires ∙ sym (ap (λ (s : Section). s.shape.with_domain) c.self.view_is)) c.asked-text.ensures c.links_are_decided.ensures.fits c.in-Some.found.now c.in-Some.ensures c.args.x.now c.args.y.now c.linked.result c.linked.ensures.found)

pub returns-in-None-clause-found : goal.returns-in-None-clause-found
returns-in-None-clause-found g c =
    subst
    (λ (s : Section). (all : List Fields) → IsSectionOf s all → IsTrue c.is_some.result ↔ IsLinked s.shape all s.limit (option_copied c.args.domain) c.args.x.now c.args.y.now)
    c.self.view_is
    (λ all sound. linked_nowhere _ all sound (option_copied c.args.domain) c.asked-text.result.now (copied_some c.args.domain ∙ c.requires ∙ sym (ap (λ (s : Section). s.shape.with_domain) c.self.view_is)) c.asked-text.ensures c.in-None.ensures c.terms_of-terms.result c.deref.result.now c.args.x.now c.args.y.now c.distance.result c.is_some.result c.terms_of-terms.ensures c.deref.ensures.value c.is_some.ensures c.distance.ensures)

pub returns-in-Some-clause-few_steps : goal.returns-in-Some-clause-few_steps
returns-in-Some-clause-few_steps g c =
    subst
    (λ (s : Section). (all : List Fields) → IsSectionOf s all → (test : Fields → Bool) → TellsRows s.shape all (option_copied c.args.domain) test → HasFewRoles s.shape all (option_copied c.args.domain) → c.linked.new.steps ≤ c.args.steps.now + asked_rows s.shape test c.args.x.now all + 1)
    c.self.view_is
    (λ all sound test tells few. steps_there _ all sound (option_copied c.args.domain) c.asked-text.result.now (copied_some c.args.domain ∙ c.requires ∙ sym (ap (λ (s : Section). s.shape.with_domain) c.self.view_is)) c.asked-text.ensures c.links_are_decided.ensures.fits c.in-Some.found.now c.in-Some.ensures c.args.x.now c.args.steps.now c.linked.new.steps test c.linked.ensures.few_steps tells few)
