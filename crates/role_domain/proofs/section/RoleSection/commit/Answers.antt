use Rattle.std.proofs.Common.{◌≤◌, List, length, subst, sym}
use Rattle.std.specs.Prelude.{All}
use Rattle.policy_table.specs.Tables.{Fields}
use Rattle.role_domain.specs.Sections.{relation_of}
use Rattle.role_domain.proofs.SectionLemmas.{pattern_columns, two_of_each}
use Rattle.role_domain.proofs.section.RoleSection.commit.Goals as goal

pub invariant_of-self : goal.invariant_of-self
invariant_of-self c = record {
  placed = c.self.invariant.placed;
  some = c.self.invariant.some;
  most = c.self.invariant.most;
  columns = subst (All (λ (row : Fields). 2 ≤ length row)) (sym c.into_parts-touched.ensures.patterns)
      (pattern_columns (relation_of c.args.self.now c.requires.0) c.args.prepared.patterns c.requires.1.patterns (two_of_each c.args.self.now.shape c.requires.0 c.requires.1.columns));
  few = subst (λ (l : List Fields). length l ≤ 64) (sym c.into_parts-touched.ensures.patterns) c.requires.1.patterns.few;
}
