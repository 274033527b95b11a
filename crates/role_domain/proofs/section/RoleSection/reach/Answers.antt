use Rattle.std.proofs.Common.{◌∙◌, ℕ, List, ap, subst, sym}
use Rattle.std.specs.Prelude.{◌↔◌}
use Rattle.std.specs.Option.{option_copied}
use Rattle.policy_table.specs.Tables.{Fields}
use Rattle.role_domain.specs.Reach.{Reached, ReachesName}
use Rattle.role_domain.specs.Sections.{IsSectionOf, Section}
use Rattle.role_domain.proofs.AskLemmas.{copied_some, reach_there}
use Rattle.role_meaning.specs.Links.{IsLinked}
use Rattle.role_domain.proofs.section.RoleSection.reach.Goals as goal

pub returns-in_default : goal.returns-in_default
returns-in_default c = λ all sound. tt

pub returns : goal.returns
returns c =
    subst
    (λ (s : Section). (all : List Fields) → IsSectionOf s all → (y : List ℕ) → ReachesName c.reach.result y ↔ IsLinked s.shape all s.limit (option_copied c.args.domain) c.args.x.now y)
    c.self.view_is
    (λ all sound y. subst (λ (reached : Reached). ReachesName reached y ↔ IsLinked c.self.inside.shape all c.self.inside.limit (option_copied c.args.domain) c.args.x.now y) (sym c.reach.ensures)
    (reach_there _ all sound (option_copied c.args.domain) c.asked-text.result.now (copied_some c.args.domain ∙ c.requires ∙ sym (ap (λ (s : Section). s.shape.with_domain) c.self.view_is)) c.asked-text.ensures c.links_are_decided.ensures.fits c.in-Some.found.now c.in-Some.ensures c.args.x.now y))
