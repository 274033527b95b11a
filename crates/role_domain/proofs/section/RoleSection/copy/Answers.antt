use Rattle.std.proofs.Common.{refl, subst, sym, ◌∙◌}
use Rattle.role_domain.specs.Helps.Kept.{IsKept}
use Rattle.role_domain.specs.Sections.{IsSectionOf, Section}
use Rattle.role_domain.proofs.CopyLemmas.{section_copied}
use Rattle.role_domain.proofs.section.RoleSection.copy.Goals as goal

pub invariant_of-result : goal.invariant_of-result
invariant_of-result c = subst (IsKept c.self.inside.shape c.self.inside.limit) (sym (c.in_ok-patterns.ensures ∙ c.deref.ensures.value)) c.self.invariant

pub returns-clause-section : goal.returns-clause-section
returns-clause-section c =
    let inside : Section = record { shape = c.self.inside.shape; limit = c.self.inside.limit; domains = c.self.inside.domains; patterns = c.self.inside.patterns.items } in
    λ rows is.
    section_copied inside (record { shape = c.self.inside.shape; limit = c.self.inside.limit; domains = c.in_ok-domains.domains; patterns = c.in_ok-patterns.patterns.items }) rows refl refl c.in_ok-domains.ensures
    (c.in_ok-patterns.ensures ∙ c.deref.ensures.value) (subst (λ (s : Section). IsSectionOf s rows) (sym c.self.view_is) is)
