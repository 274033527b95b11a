use Rattle.std.proofs.Common.{◌≡◌, ◌≤◌, ◌++◌, List, length, map}
use Rattle.policy_table.specs.Tables.{Fields}
use Rattle.role_domain.specs.Sections.{IsSectionOf}
use Rattle.rbac_query.specs.Helps.Entries.{AddsEntries}
use Rattle.rbac_query.specs.Helps.Subjects.{shown}
use Rattle.rbac_query.proofs.SubjectLemmas.{Keys}
use Rattle.rbac_query.proofs.reports.push_entries.Given as goal

abbrev pub invariant-loop-subject : goal.invariant-loop-subject
invariant-loop-subject l =
    (done : Keys) × (l.subjects.keys ≡ done ++ l.subject-iterator)
    × ((rows : List Fields) → IsSectionOf l.section rows → AddsEntries l.section.shape rows l.section.limit l.initial.text.items (map shown done) l.text.items)
    × (length l.text.items ≤ l.most)
