-- What is known of the report while it is written.
use Rattle.std.specs.Prelude.{◌≡◌, ℕ, ◌++◌, List, All, flat_map, map}
use Rattle.csv.specs.Writing.{default_writer, row_text}
use Rattle.perm_base.specs.declared.shapes.RoleShape.{RoleShape}
use Rattle.policy_table.specs.Tables.{Fields}
use Rattle.role_meaning.specs.Distances.{IsFar}
use Rattle.rbac_query.specs.Helps.Stops.{IsStop}
use Rattle.rbac_query.specs.Report.{AreReached, Entry, Reached, Subject, asked, record_of, roles_text}
use Rattle.rbac_query.specs.declared.stop.ReportStop.{ReportStop}

-- items with these keys, of each of which this holds
pub record AreWith {X Y : Type 0} (key : X → Y) (Is : X → Type 0) (keys : List Y) (items : List X) : Type 0 where
  pub keys_are : map key items ≡ keys
  pub each : All Is items

-- the new text is the old one and what is printed of the items with these keys
abbrev pub Adds : {X Y : Type 0} → (X → Y) → (X → Type 0) → (X → List ℕ) → List ℕ → List Y → List ℕ → Type 0
Adds {X} key Is print old keys new = (items : List X) → AreWith key Is keys items → new ≡ old ++ flat_map print items

-- why that text is not written
abbrev pub StopsAt : {X Y : Type 0} → (X → Y) → (X → Type 0) → (X → List ℕ) → ℕ → List ℕ → List Y → ReportStop → Type 0
StopsAt {X} key Is print most old keys stop = (items : List X) → AreWith key Is keys items → IsStop most (old ++ flat_map print items) stop

-- a user in a domain
abbrev pub user_in : List ℕ → List ℕ → Subject
user_in user domain = record { user = user; domain = domain }

-- the record of a role that a user has by so many links
abbrev pub role_record : List ℕ → List ℕ → List ℕ → ℕ → List (List ℕ)
role_record user domain role links = record_of (user_in user domain) (record { role = role; links = links })

abbrev pub role_name : Reached → List ℕ
role_name one = one.role

abbrev pub IsRoleOf : RoleShape → List Fields → Subject → Reached → Type 0
IsRoleOf shape rows subject one = IsFar shape rows (asked shape subject.domain) subject.user one.role one.links

abbrev pub role_text : Subject → Reached → List ℕ
role_text subject one = row_text default_writer (record_of subject one)

-- the records of the roles of these names
abbrev pub AddsRoles : RoleShape → List Fields → Subject → List ℕ → List (List ℕ) → List ℕ → Type 0
AddsRoles shape rows subject old names new = Adds role_name (IsRoleOf shape rows subject) (role_text subject) old names new

abbrev pub StopsRoles : RoleShape → List Fields → Subject → ℕ → List ℕ → List (List ℕ) → ReportStop → Type 0
StopsRoles shape rows subject most old names stop = StopsAt role_name (IsRoleOf shape rows subject) (role_text subject) most old names stop

-- the records of a subject
abbrev pub AddsSubject : RoleShape → List Fields → ℕ → Subject → List ℕ → List ℕ → Type 0
AddsSubject shape rows limit subject old new = (roles : List Reached) → AreReached shape rows limit subject roles → new ≡ old ++ roles_text subject roles

abbrev pub StopsSubject : RoleShape → List Fields → ℕ → Subject → ℕ → List ℕ → ReportStop → Type 0
StopsSubject shape rows limit subject most old stop = (roles : List Reached) → AreReached shape rows limit subject roles → IsStop most (old ++ roles_text subject roles) stop

abbrev pub subject_in : Entry → Subject
subject_in entry = entry.subject

abbrev pub IsEntry : RoleShape → List Fields → ℕ → Entry → Type 0
IsEntry shape rows limit entry = AreReached shape rows limit entry.subject entry.roles

abbrev pub entry_text : Entry → List ℕ
entry_text entry = roles_text entry.subject entry.roles

-- the records of these subjects
abbrev pub AddsEntries : RoleShape → List Fields → ℕ → List ℕ → List Subject → List ℕ → Type 0
AddsEntries shape rows limit old subjects new = Adds subject_in (IsEntry shape rows limit) entry_text old subjects new

abbrev pub StopsEntries : RoleShape → List Fields → ℕ → ℕ → List ℕ → List Subject → ReportStop → Type 0
StopsEntries shape rows limit most old subjects stop = StopsAt subject_in (IsEntry shape rows limit) entry_text most old subjects stop
