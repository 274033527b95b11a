use Rattle.std.proofs.Common.{◌≡◌, ◌∙◌, Bool, List, ℕ, ap, subst, sym}
use Rattle.std.specs.Option.{option_copied}
use Rattle.policy_table.specs.Tables.{Fields}
use Rattle.role_domain.specs.Relations.{Tells, counted, fit_of}
use Rattle.role_domain.specs.Sections.{IsSectionOf, Section}
use Rattle.role_domain.proofs.AskLemmas.{copied_some, implied_nowhere, implied_there}
use Rattle.role_graph.specs.Groups.{times}
use Rattle.role_meaning.specs.Implied.{AreImplied}
use Rattle.role_domain.proofs.section.RoleSection.roles_within.Goals as goal

pub returns-in-Some : goal.returns-in-Some
returns-in-Some c =
    subst
    (λ (s : Section). (all : List Fields) → IsSectionOf s all → AreImplied s.shape all s.limit (option_copied c.args.domain) c.args.x.now c.in_ok-names.names)
    c.self.view_is
    (λ all sound. implied_there _ all sound (option_copied c.args.domain) c.asked-text.result.now (copied_some c.args.domain ∙ c.requires ∙ sym (ap (λ (s : Section). s.shape.with_domain) c.self.view_is)) c.asked-text.ensures c.links_are_decided.ensures.fits c.in-Some.found.now c.in-Some.ensures c.args.x.now c.in_ok-names.names c.in_ok-names.ensures)

pub returns : goal.returns
returns c =
    subst
    (λ (s : Section). (all : List Fields) → IsSectionOf s all → AreImplied s.shape all s.limit (option_copied c.args.domain) c.args.x.now c.in_ok-names-2.names)
    c.self.view_is
    (λ all sound. implied_nowhere _ all sound (option_copied c.args.domain) c.asked-text.result.now (copied_some c.args.domain ∙ c.requires ∙ sym (ap (λ (s : Section). s.shape.with_domain) c.self.view_is)) c.asked-text.ensures c.in_default.ensures c.links_are_decided.ensures.fits c.in_ok-graph.graph c.args.x.now c.in_ok-names-2.names
    (c.in_ok-graph.ensures.names ∙ sym (ap (λ (s : Section). s.shape.names) c.self.view_is)) (c.in_ok-graph.ensures.limit ∙ sym (ap (λ (s : Section). s.limit) c.self.view_is))
    (subst (λ (s : Section). (test : List ℕ → Bool) → Tells (fit_of s.shape) c.asked-text.result.now test → (one : Fields) → times one c.in_ok-graph.graph.rows ≡ counted test one s.patterns) (sym c.self.view_is) c.in_ok-graph.ensures.rows)
    c.in_ok-names-2.ensures)
