use Rattle.std.proofs.Common.{◌≡◌, ◌==◌, drop}
use Rattle.std.specs.Prelude.{find}
use Rattle.role_domain.specs.Sections.{Section}
use Rattle.policy_state.proofs.sections.Sections.find.Given as goal

abbrev pub invariant-loop-section : goal.invariant-loop-section
invariant-loop-section l = find (λ (section : Section). section.shape.number == l.number) (drop l.section-index l.section-items) ≡ find (λ (section : Section). section.shape.number == l.number) l.section-items
