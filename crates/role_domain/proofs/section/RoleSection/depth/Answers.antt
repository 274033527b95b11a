use Rattle.std.proofs.Common.{◌≤◌, ◌∙◌, List, length, ap, subst, sym}
use Rattle.std.specs.Prelude.{All}
use Rattle.std.specs.Option.{option_copied}
use Rattle.policy_table.specs.Tables.{Fields}
use Rattle.role_domain.specs.Sections.{IsSectionOf, Section}
use Rattle.role_domain.proofs.AskLemmas.{copied_some, depth_nowhere, depth_there}
use Rattle.role_meaning.specs.Depths.{IsDepth}
use Rattle.role_domain.proofs.section.RoleSection.depth.Goals as goal

pub depth-requires-in-None-clause-columns : goal.depth-requires-in-None-clause-columns
depth-requires-in-None-clause-columns c = subst (All (λ (row : Fields). 2 ≤ length row)) (sym c.deref.ensures.value) c.self.invariant.columns

pub returns-in-Some : goal.returns-in-Some
returns-in-Some c =
    subst
    (λ (s : Section). (all : List Fields) → IsSectionOf s all → IsDepth s.shape all s.limit (option_copied c.args.domain) c.args.x.now c.depth.result)
    c.self.view_is
    (λ all sound. depth_there _ all sound (option_copied c.args.domain) c.asked-text.result.now (copied_some c.args.domain ∙ c.requires ∙ sym (ap (λ (s : Section). s.shape.with_domain) c.self.view_is)) c.asked-text.ensures c.links_are_decided.ensures.fits c.in-Some.found.now c.in-Some.ensures c.args.x.now c.depth.result c.depth.ensures)

pub returns-in-None : goal.returns-in-None
returns-in-None c =
    subst
    (λ (s : Section). (all : List Fields) → IsSectionOf s all → IsDepth s.shape all s.limit (option_copied c.args.domain) c.args.x.now c.depth-in-None.result)
    c.self.view_is
    (λ all sound. depth_nowhere _ all sound (option_copied c.args.domain) c.asked-text.result.now (copied_some c.args.domain ∙ c.requires ∙ sym (ap (λ (s : Section). s.shape.with_domain) c.self.view_is)) c.asked-text.ensures c.in-None.ensures c.terms_of-terms.result c.deref.result.now c.args.x.now c.depth-in-None.result c.terms_of-terms.ensures c.deref.ensures.value c.depth-in-None.ensures)
