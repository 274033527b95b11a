use Rattle.std.proofs.Common.{◌≡◌, ◌∙◌, List, [], ap, subst, sym}
use Rattle.std.specs.Prelude.{unwrap_or}
use Rattle.std.specs.List.{Contains}
use Rattle.std.specs.Option.{option_copied}
use Rattle.policy_table.specs.Tables.{Fields}
use Rattle.role_domain.specs.Sections.{IsSectionOf, Section}
use Rattle.role_domain.proofs.AskLemmas.{copied_some, no_row, roles_there}
use Rattle.role_meaning.specs.Links.{domain_of, role_of, user_of}
use Rattle.role_domain.proofs.section.RoleSection.roles_of.Goals as goal

pub returns-in_default : goal.returns-in_default
returns-in_default c =
    subst
    (λ (s : Section). (all : List Fields) → IsSectionOf s all → (row : Fields) → Contains all row → user_of row ≡ c.args.user.now → domain_of row ≡ unwrap_or (option_copied c.args.domain) [] → Contains [] (role_of row))
    c.self.view_is
    (λ all sound row stands is_user is_domain. absurd (no_row _ all sound (option_copied c.args.domain) c.asked-text.result.now (copied_some c.args.domain ∙ c.requires ∙ sym (ap (λ (s : Section). s.shape.with_domain) c.self.view_is)) c.asked-text.ensures c.in_default.ensures
    row stands (c.asked-text.ensures ∙ sym is_domain)))

pub returns : goal.returns
returns c =
    subst
    (λ (s : Section). (all : List Fields) → IsSectionOf s all → (row : Fields) → Contains all row → user_of row ≡ c.args.user.now → domain_of row ≡ unwrap_or (option_copied c.args.domain) [] → Contains c.roles_of.result.now (role_of row))
    c.self.view_is
    (λ all sound row stands is_user is_domain. roles_there _ all sound (option_copied c.args.domain) c.asked-text.result.now (copied_some c.args.domain ∙ c.requires ∙ sym (ap (λ (s : Section). s.shape.with_domain) c.self.view_is)) c.asked-text.ensures c.links_are_decided.ensures.fits c.in-Some.found.now c.in-Some.ensures
    c.args.user.now c.roles_of.result.now row c.roles_of.ensures stands is_user (is_domain ∙ sym c.asked-text.ensures))
