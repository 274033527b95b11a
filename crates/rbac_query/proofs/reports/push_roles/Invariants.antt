use Rattle.std.proofs.Common.{◌≤◌, List, length, take}
use Rattle.policy_table.specs.Tables.{Fields}
use Rattle.role_domain.specs.Sections.{IsSectionOf}
use Rattle.rbac_query.specs.Helps.Entries.{AddsRoles, user_in}
use Rattle.rbac_query.specs.Helps.Runs.{AreAsFar, AreInOrder}
use Rattle.rbac_query.proofs.reports.push_roles.Given as goal

abbrev pub invariant-loop-at : goal.invariant-loop-at
invariant-loop-at l = record {
  adds : (rows : List Fields) → IsSectionOf l.section rows → AreInOrder l.section.shape rows (user_in l.user l.domain) l.names
      → AddsRoles l.section.shape rows (user_in l.user l.domain) l.initial.text.items (take l.at l.names) l.text.items;
  within : length l.text.items ≤ l.most;
  known : (rows : List Fields) → IsSectionOf l.section rows → AreInOrder l.section.shape rows (user_in l.user l.domain) l.names
      → AreAsFar l.section.shape rows (user_in l.user l.domain) l.names l.at l.run.end l.run.links;
}
