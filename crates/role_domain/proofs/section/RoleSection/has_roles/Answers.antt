use Rattle.std.proofs.Common.{◌≤◌, ◌∙◌, List, IsTrue, length, ap, subst, sym}
use Rattle.std.specs.Prelude.{◌↔◌, All}
use Rattle.std.specs.Option.{option_copied}
use Rattle.policy_table.specs.Tables.{Fields}
use Rattle.role_domain.specs.Sections.{IsSectionOf, Section}
use Rattle.role_domain.proofs.AskLemmas.{copied_some, has_nowhere, has_there}
use Rattle.role_meaning.specs.Links.{HasRoles}
use Rattle.role_domain.proofs.section.RoleSection.has_roles.Goals as goal

pub has_roles-requires-in-None : goal.has_roles-requires-in-None
has_roles-requires-in-None c = subst (All (λ (row : Fields). 2 ≤ length row)) (sym c.deref.ensures.value) c.self.invariant.columns

pub returns-in-Some : goal.returns-in-Some
returns-in-Some c =
    subst
    (λ (s : Section). (all : List Fields) → IsSectionOf s all → IsTrue c.has_roles.result ↔ HasRoles s.shape all (option_copied c.args.domain) c.args.x.now)
    c.self.view_is
    (λ all sound. has_there _ all sound (option_copied c.args.domain) c.asked-text.result.now (copied_some c.args.domain ∙ c.requires ∙ sym (ap (λ (s : Section). s.shape.with_domain) c.self.view_is)) c.asked-text.ensures c.links_are_decided.ensures.fits c.in-Some.found.now c.in-Some.ensures c.args.x.now c.has_roles.result c.has_roles.ensures)

pub returns-in-None : goal.returns-in-None
returns-in-None c =
    subst
    (λ (s : Section). (all : List Fields) → IsSectionOf s all → IsTrue c.has_roles-in-None.result ↔ HasRoles s.shape all (option_copied c.args.domain) c.args.x.now)
    c.self.view_is
    (λ all sound. has_nowhere _ all sound (option_copied c.args.domain) c.asked-text.result.now (copied_some c.args.domain ∙ c.requires ∙ sym (ap (λ (s : Section). s.shape.with_domain) c.self.view_is)) c.asked-text.ensures c.in-None.ensures c.terms_of.result c.deref.result.now c.args.x.now c.has_roles-in-None.result c.terms_of.ensures c.deref.ensures.value c.has_roles-in-None.ensures)
