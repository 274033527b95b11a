use Rattle.std.proofs.Common.{◌≤◌, ◌+◌, ◌∙◌, Bool, List, length, ap, subst, sym}
use Rattle.std.specs.Prelude.{All}
use Rattle.std.specs.Option.{option_copied}
use Rattle.policy_table.specs.Tables.{Fields}
use Rattle.role_domain.specs.Relations.{HasFewRoles, TellsRows, asked_rows}
use Rattle.role_domain.specs.Sections.{IsSectionOf, Section}
use Rattle.role_domain.proofs.AskLemmas.{copied_some, far_nowhere, far_there, steps_there}
use Rattle.role_meaning.specs.Distances.{IsFar}
use Rattle.role_domain.proofs.section.RoleSection.far.Goals as goal

pub distance-requires-clause-columns : goal.distance-requires-clause-columns
distance-requires-clause-columns g c = subst (All (λ (row : Fields). 2 ≤ length row)) (sym c.deref.ensures.value) c.self.invariant.columns

pub returns-in-Some-clause-far : goal.returns-in-Some-clause-far
returns-in-Some-clause-far g c =
    subst
    (λ (s : Section). (all : List Fields) → IsSectionOf s all → IsFar s.shape all (option_copied c.args.domain) c.args.x.now c.args.y.now c.far.result)
    c.self.view_is
    (λ all sound. far_there _ all sound (option_copied c.args.domain) c.asked-text.result.now (copied_some c.args.domain ∙ c.requires ∙ sym (ap (λ (s : Section). s.shape.with_domain) c.self.view_is)) c.asked-text.ensures c.links_are_decided.ensures.fits c.in-Some.found.now c.in-Some.ensures c.args.x.now c.args.y.now c.far.result c.far.ensures.far)

pub returns-in-None-clause-far : goal.returns-in-None-clause-far
returns-in-None-clause-far g c =
    subst
    (λ (s : Section). (all : List Fields) → IsSectionOf s all → IsFar s.shape all (option_copied c.args.domain) c.args.x.now c.args.y.now c.unwrap_or.result)
    c.self.view_is
    (λ all sound. far_nowhere _ all sound (option_copied c.args.domain) c.asked-text.result.now (copied_some c.args.domain ∙ c.requires ∙ sym (ap (λ (s : Section). s.shape.with_domain) c.self.view_is)) c.asked-text.ensures c.in-None.ensures c.terms_of-terms.result c.deref.result.now c.args.x.now c.args.y.now c.distance.result c.unwrap_or.result c.terms_of-terms.ensures c.deref.ensures.value c.unwrap_or.ensures c.distance.ensures)

pub returns-in-Some-clause-few_steps : goal.returns-in-Some-clause-few_steps
returns-in-Some-clause-few_steps g c =
    subst
    (λ (s : Section). (all : List Fields) → IsSectionOf s all → (test : Fields → Bool) → TellsRows s.shape all (option_copied c.args.domain) test → HasFewRoles s.shape all (option_copied c.args.domain) → c.far.new.steps ≤ c.args.steps.now + asked_rows s.shape test c.args.x.now all + 1)
    c.self.view_is
    (λ all sound test tells few. steps_there _ all sound (option_copied c.args.domain) c.asked-text.result.now (copied_some c.args.domain ∙ c.requires ∙ sym (ap (λ (s : Section). s.shape.with_domain) c.self.view_is)) c.asked-text.ensures c.links_are_decided.ensures.fits c.in-Some.found.now c.in-Some.ensures c.args.x.now c.args.steps.now c.far.new.steps test c.far.ensures.few_steps tells few)
