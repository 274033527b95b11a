-- The report of a relation: each of its users with all roles that it has by links, as records of CSV (RFC 4180).
use Rattle.std.specs.Prelude.{◌≡◌, ◌↔◌, ◌<◌, ◌++◌, ⊤, false, ℕ, List, [], ◌∷◌, All, AllPairs, map, flat_map, length, Option, Some, None, codes, decimal, if◌then◌else◌}
use Rattle.std.specs.Cmp.Lexicographic.{slice_cmp}
use Rattle.std.specs.List.{Contains}
use Rattle.std.specs.Ordering.{nat_cmp, ordering_then}
use Rattle.std.specs.declared.cmp.Ordering.{Ordering}
use Rattle.std.specs.declared.cmp.Ordering.TheVariants.{Less}
use Rattle.csv.specs.Writing.{default_writer, row_text}
use Rattle.perm_base.specs.Patterns.{is_pattern}
use Rattle.perm_base.specs.RoleShapes.{shape_of}
use Rattle.perm_base.specs.declared.shapes.RoleShape.{RoleShape}
use Rattle.perm_base.specs.declared.shapes.Shapes.{Shapes}
use Rattle.policy_table.specs.Tables.{Fields, Policy}
use Rattle.role_meaning.specs.Distances.{IsFar}
use Rattle.role_meaning.specs.Implied.{AreImplied}
use Rattle.role_meaning.specs.Links.{domain_of, user_of}
use Rattle.rbac_query.specs.Asked.{OfRelation, hierarchy}
use Rattle.rbac_query.specs.declared.stop.ReportStop.{ReportStop}
use Rattle.rbac_query.specs.declared.stop.ReportStop.TheVariants as stops

-- a user in a domain, which is the empty text where rows have none
pub record Subject : Type 0 where
  pub user : List ℕ
  pub domain : List ℕ

abbrev pub subject_of : Fields → Subject
subject_of row = record { user = user_of row; domain = domain_of row }

-- the user and the domain of some row, neither of which is a pattern
pub record IsSubject (shape : RoleShape) (rows : List Fields) (subject : Subject) : Type 0 where
  pub row : Fields
  pub stands : Contains rows row
  pub same : subject_of row ≡ subject
  pub plain_user : is_pattern shape.names subject.user ≡ false
  pub plain_domain : is_pattern shape.domains subject.domain ≡ false

-- by bytes of the user, then of the domain
abbrev pub subject_cmp : Subject → Subject → Ordering
subject_cmp one other = ordering_then (slice_cmp nat_cmp one.user other.user) (slice_cmp nat_cmp one.domain other.domain)

-- each of these once and nothing else, in that order
pub record AreSubjects (shape : RoleShape) (rows : List Fields) (subjects : List Subject) : Type 0 where
  pub members : (subject : Subject) → Contains subjects subject ↔ IsSubject shape rows subject
  pub order : AllPairs (λ (one other : Subject). subject_cmp one other ≡ Less) subjects

-- a role, and by how many links it is reached
pub record Reached : Type 0 where
  pub role : List ℕ
  pub links : ℕ

-- the domain that is asked for, where rows have one
abbrev pub asked : RoleShape → List ℕ → Option (List ℕ)
asked shape domain = if shape.with_domain then Some domain else None

-- the roles that the subject has by links, in the order of implied roles, each with the least number of links
pub record AreReached (shape : RoleShape) (rows : List Fields) (limit : ℕ) (subject : Subject) (roles : List Reached) : Type 0 where
  pub implied : AreImplied shape rows limit (asked shape subject.domain) subject.user (map (λ (one : Reached). one.role) roles)
  pub far : All (λ (one : Reached). IsFar shape rows (asked shape subject.domain) subject.user one.role one.links) roles

-- a subject and its roles
pub record Entry : Type 0 where
  pub subject : Subject
  pub roles : List Reached

-- all subjects in their order, each with its roles
pub record AreEntries (shape : RoleShape) (rows : List Fields) (limit : ℕ) (entries : List Entry) : Type 0 where
  pub subjects : AreSubjects shape rows (map (λ (entry : Entry). entry.subject) entries)
  pub roles : All (λ (entry : Entry). AreReached shape rows limit entry.subject entry.roles) entries

-- the record of a role of a subject
abbrev pub record_of : Subject → Reached → List (List ℕ)
record_of subject one = subject.user ∷ subject.domain ∷ one.role ∷ decimal one.links ∷ []

abbrev pub header : List (List ℕ)
header = codes "user" ∷ codes "domain" ∷ codes "role" ∷ codes "links" ∷ []

-- the records of a subject
abbrev pub roles_text : Subject → List Reached → List ℕ
roles_text subject roles = flat_map (λ (one : Reached). row_text default_writer (record_of subject one)) roles

abbrev pub entries_text : List Entry → List ℕ
entries_text entries = flat_map (λ (entry : Entry). roles_text entry.subject entry.roles) entries

-- the header, and then the records of each subject
abbrev pub report_text : List Entry → List ℕ
report_text entries = row_text default_writer header ++ entries_text entries

-- the text is the report of g
abbrev pub IsReport : Shapes → Policy → List ℕ → Type 0
IsReport shapes policy text = OfRelation shapes policy hierarchy (λ shape rules. (entries : List Entry) × AreEntries shape rules shapes.limit entries × (text ≡ report_text entries))

-- why there is no report: no relation g, or a report of more than `most` bytes; want of memory may come at any time
abbrev pub IsReportStop : Shapes → Policy → ℕ → ReportStop → Type 0
IsReportStop shapes policy most stops.NoTable = shape_of shapes.roles hierarchy ≡ None
IsReportStop shapes policy most stops.TooLong = (text : List ℕ) × IsReport shapes policy text × (most < length text)
IsReportStop shapes policy most stops.NoMemory = ⊤
