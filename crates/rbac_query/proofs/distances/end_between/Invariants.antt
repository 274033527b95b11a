use Rattle.std.proofs.Common.{◌-◌, ◌<◌, ◌≤◌, List, [], get_or, length}
use Rattle.policy_table.specs.Tables.{Fields}
use Rattle.role_domain.specs.Sections.{IsSectionOf}
use Rattle.role_meaning.specs.Distances.{IsFar}
use Rattle.rbac_query.specs.Report.{asked}
use Rattle.rbac_query.proofs.distances.end_between.Given as goal

abbrev pub invariant-loop-high : goal.invariant-loop-high
invariant-loop-high l = record {
  first : l.at ≤ l.low;
  ordered : l.low < l.high;
  within : l.high ≤ length l.names;
  known : (rows : List Fields) → IsSectionOf l.section rows
      → IsFar l.section.shape rows (asked l.section.shape l.domain) l.user (get_or l.names l.at []) l.links
      → IsFar l.section.shape rows (asked l.section.shape l.domain) l.user (get_or l.names l.low []) l.links;
}

abbrev pub decreases-loop-high : goal.decreases-loop-high
decreases-loop-high l = l.high - l.low
