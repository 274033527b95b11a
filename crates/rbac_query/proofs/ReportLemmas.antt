-- A relation has one report, and what is written in turn is that report.
use Rattle.std.proofs.Common.{◌≡◌, ◌⊎◌, inl, inr, ℕ, ◌<◌, ◌≤◌, Bool, true, false, ◌&&◌, not, cond, ◌+◌, List, [], ◌∷◌, ◌++◌, filter, get_or, length, map, take, drop, Bor, Option, Some, refl, sym, ap, subst, ◌∙◌}
use Rattle.std.specs.Prelude.{◌↔◌, IsTrue, flat_map}
use Rattle.std.specs.Cmp.{nat_cmp_total, on_total, ranks, then_total}
use Rattle.std.specs.Cmp.Lexicographic.{nat_list_cmp_total, slice_cmp}
use Rattle.std.specs.List.{Contains}
use Rattle.std.specs.Ordering.{MatchOrdering, nat_cmp, ordering_then}
use Rattle.std.specs.Str.{bytes_eq}
use Rattle.std.specs.declared.cmp.Ordering.{Ordering}
use Rattle.std.specs.declared.cmp.Ordering.TheVariants.{Less, Equal, Greater}
use Rattle.std.proofs.lemmas.Bool.{and_parts, false≢true, not-true}
use Rattle.std.proofs.lemmas.List.{drop_more, map-append, map_push, take-append-drop, take_all, take_more}
use Rattle.std.proofs.lemmas.Option.{same_Some}
use Rattle.std.proofs.lemmas.Slice.Eq.{bytes_eq-Decides}
use Rattle.csv.specs.Writing.{default_writer, row_text}
use Rattle.perm_base.specs.RoleShapes.{shape_of}
use Rattle.perm_base.specs.declared.shapes.RoleShape.{RoleShape}
use Rattle.perm_base.specs.declared.shapes.Shapes.{Shapes}
use Rattle.perm_base.specs.declared.shapes.TableId.TheVariants.{G}
use Rattle.policy_table.specs.Tables.{Fields, Policy, rows}
use Rattle.role_meaning.specs.Distances.{IsFar, farthest}
use Rattle.role_meaning.specs.Implied.{AreImplied, IsImplied, IsNearer}
use Rattle.role_meaning.specs.Links.{Reaches, role_of}
use Rattle.role_meaning.proofs.CallerLemmas.{implied_unique, least_unique, stands_behind, stands_cases, stands_here, stands_nowhere}
use Rattle.rbac_query.specs.Asked.{hierarchy}
use Rattle.rbac_query.specs.Helps.Entries.{AddsEntries, AddsRoles, AddsSubject, AreWith, IsEntry, IsRoleOf, StopsEntries, StopsRoles, StopsSubject, entry_text, role_name, role_text, subject_in}
use Rattle.rbac_query.specs.Helps.Stops.{IsStop}
use Rattle.rbac_query.specs.Helps.Subjects.{shown}
use Rattle.rbac_query.specs.Report.{AreEntries, AreReached, AreSubjects, Entry, IsReport, IsReportStop, Reached, Subject, asked, header, record_of, report_text, roles_text}
use Rattle.rbac_query.specs.declared.stop.ReportStop.{ReportStop}
use Rattle.rbac_query.specs.declared.stop.ReportStop.TheVariants.{NoTable, TooLong, NoMemory}
use Rattle.rbac_query.proofs.EntryLemmas.{adds_one, in_front, items_one, items_there, longer, stops_one}
use Rattle.rbac_query.proofs.SortedLemmas.{IsStrict, sorted_cases, sorted_of, sorted_order, sorted_stands}
use Rattle.rbac_query.proofs.SubjectLemmas.{Keys, subjects_one, subjects_there, text_tied, then_tied}

-- which of a list pass a test
passes_from : (test : List ℕ → Bool) (xs : List (List ℕ)) (y : List ℕ) → Contains (filter test xs) y → Contains xs y × (test y ≡ true)
passes_from test [] y none = absurd (stands_nowhere y none)
passes_from test (x ∷ xs) y stands = by (test x) refl stands (passes_from test xs y)
  where
    behind : Contains xs y × (test y ≡ true) → Contains (x ∷ xs) y × (test y ≡ true)
    behind both = (stands_behind x xs y both.0, both.1)

    by : (b : Bool) → test x ≡ b → Contains (cond b (x ∷ filter test xs) (filter test xs)) y → (Contains (filter test xs) y → Contains xs y × (test y ≡ true)) → Contains (x ∷ xs) y × (test y ≡ true)
    by true is here more = first (stands_cases x (filter test xs) y here)
      where
        first : (x ≡ y) ⊎ Contains (filter test xs) y → Contains (x ∷ xs) y × (test y ≡ true)
        first (inl e) = (subst (Contains (x ∷ xs)) e (stands_here x xs), sym (ap test e) ∙ is)
        first (inr there) = behind (more there)
    by false is here more = behind (more here)

passes_there : (test : List ℕ → Bool) (xs : List (List ℕ)) (y : List ℕ) → Contains xs y → test y ≡ true → Contains (filter test xs) y
passes_there test [] y none is = none
passes_there test (x ∷ xs) y stands is = by (stands_cases x xs y stands) (passes_there test xs y)
  where
    added : (b : Bool) → Contains (filter test xs) y → Contains (cond b (x ∷ filter test xs) (filter test xs)) y
    added true there = stands_behind x (filter test xs) y there
    added false there = there

    by : (x ≡ y) ⊎ Contains xs y → (Contains xs y → test y ≡ true → Contains (filter test xs) y) → Contains (cond (test x) (x ∷ filter test xs) (filter test xs)) y
    by (inl e) more = subst (λ (b : Bool). Contains (cond b (x ∷ filter test xs) (filter test xs)) y) (sym (ap test e ∙ is)) (subst (Contains (x ∷ filter test xs)) e (stands_here x (filter test xs)))
    by (inr there) more = added (test x) (more there is)

-- each two names have a distance
abbrev pub FarThere : Type 0
FarThere = (shape : RoleShape) (rules : List Fields) (domain : Option (List ℕ)) (x y : List ℕ) → (distance : ℕ) × IsFar shape rules domain x y distance

-- a test tells whether a name reaches another
abbrev pub ReachTold : Type 0
ReachTold = (shape : RoleShape) (rules : List Fields) (domain : Option (List ℕ)) (links : ℕ) (x y : List ℕ) → (b : Bool) × (IsTrue b ↔ Reaches shape rules domain links x y)

pub far_one : (shape : RoleShape) (rules : List Fields) (domain : Option (List ℕ)) (x y : List ℕ) (distance other : ℕ) → IsFar shape rules domain x y distance → IsFar shape rules domain x y other → distance ≡ other
far_one shape rules domain x y distance other one two = least_unique farthest (λ links. Reaches shape rules domain links x y) distance other one two

module _ (far : FarThere) (reach : ReachTold) (shape : RoleShape) (rules : List Fields) (limit : ℕ) where
  module _ (domain : Option (List ℕ)) (x : List ℕ) where
    abbrev how_far : List ℕ → ℕ
    how_far y = (far shape rules domain x y).0

    -- by distance, then by bytes
    abbrev near_cmp : List ℕ → List ℕ → Ordering
    near_cmp y z = ordering_then (nat_cmp (how_far y) (how_far z)) (slice_cmp nat_cmp y z)

    near_strict : IsStrict near_cmp
    near_strict = record {
      total = then_total (on_total how_far nat_cmp_total) nat_list_cmp_total;
      same = λ y z is. text_tied y z (then_tied (nat_cmp (how_far y) (how_far z)) (slice_cmp nat_cmp y z) is).1;
    }

    nearer : (y z : List ℕ) → near_cmp y z ≡ Less → IsNearer shape rules domain x y z
    nearer y z less = record {
      near = how_far y;
      far = how_far z;
      to_one = (far shape rules domain x y).1;
      to_other = (far shape rules domain x z).1;
      before = by (nat_cmp (how_far y) (how_far z)) (ranks (how_far y) (how_far z)) less;
    }
      where
        by : (o : Ordering) → MatchOrdering o (how_far y < how_far z) (how_far y ≡ how_far z) (how_far z < how_far y) → ordering_then o (slice_cmp nat_cmp y z) ≡ Less → (how_far y < how_far z) ⊎ ((how_far y ≡ how_far z) × (slice_cmp nat_cmp y z ≡ Less))
        by Less rank is = inl rank
        by Equal rank is = inr (rank, is)
        by Greater rank is = absurd cc

    -- another name that is reached
    abbrev is_other : List ℕ → Bool
    is_other y = not (bytes_eq y x) && (reach shape rules domain limit x y).0

    abbrev candidates : List (List ℕ)
    candidates = filter is_other (map role_of rules)

    implied_from : (y : List ℕ) → Contains (map role_of rules) y × (is_other y ≡ true) → IsImplied shape rules limit domain x y
    implied_from y both =
        let parts = and_parts (not (bytes_eq y x)) (reach shape rules domain limit x y).0 both.1 in
        record {
          other = λ same. false≢true (sym (not-true (bytes_eq y x) parts.0) ∙ (bytes_eq-Decides y x).1 same);
          linked = (reach shape rules domain limit x y).1.0 parts.1;
          role = both.0;
        }

    other_from : (y : List ℕ) → IsImplied shape rules limit domain x y → is_other y ≡ true
    other_from y implied = by (bytes_eq y x) refl (reach shape rules domain limit x y).0 ((reach shape rules domain limit x y).1.1 implied.linked)
      where
        by : (a : Bool) → bytes_eq y x ≡ a → (b : Bool) → b ≡ true → (not a && b) ≡ true
        by true is b there = absurd (implied.other ((bytes_eq-Decides y x).0 is))
        by false is b there = there

    implied_there : (names : List (List ℕ)) × AreImplied shape rules limit domain x names
    implied_there = (
      sorted_of near_cmp candidates,
      record {
        members = λ y. (λ stands. implied_from y (passes_from is_other (map role_of rules) y (sorted_cases near_cmp near_strict candidates y stands)), λ implied. sorted_stands near_cmp near_strict candidates y (passes_there is_other (map role_of rules) y implied.role (other_from y implied)));
        order = λ i j d less within. nearer _ _ (sorted_order near_cmp near_strict candidates i j d less within);
      },
    )

  reached_there : (subject : Subject) → (roles : List Reached) × AreReached shape rules limit subject roles
  reached_there subject =
      let names = implied_there (asked shape subject.domain) subject.user in
      let roles = items_there role_name (IsRoleOf shape rules subject) (λ (name : List ℕ). let there = far shape rules (asked shape subject.domain) subject.user name in (record { role = name; links = there.0 }, refl, there.1)) names.0 in (
        roles.0,
        record {
          implied = subst (AreImplied shape rules limit (asked shape subject.domain) subject.user) (sym roles.1.keys_are) names.1;
          far = roles.1.each;
        },
      )

  entries_there : (entries : List Entry) × AreEntries shape rules limit entries
  entries_there =
      let subjects = subjects_there shape rules in
      let entries = items_there subject_in (IsEntry shape rules limit) (λ (subject : Subject). let there = reached_there subject in (record { subject = subject; roles = there.0 }, refl, there.1)) subjects.0 in (
        entries.0,
        record {
          subjects = subst (AreSubjects shape rules) (sym entries.1.keys_are) subjects.1;
          roles = entries.1.each;
        },
      )

pub report_there : FarThere → ReachTold → (shapes : Shapes) (policy : Policy) (shape : RoleShape) → shape_of shapes.roles hierarchy ≡ Some shape → (text : List ℕ) × IsReport shapes policy text
report_there far reach shapes policy shape there =
    let entries = entries_there far reach shape (rows policy (G hierarchy)) shapes.limit in
    (report_text entries.0, record { shape = shape; there = there; holds = (entries.0, entries.1, refl) })

-- the roles of a subject are one list
module _ (shape : RoleShape) (rules : List Fields) (limit : ℕ) where
  role_same : (subject : Subject) (one other : Reached) → one.role ≡ other.role → IsRoleOf shape rules subject one → IsRoleOf shape rules subject other → one ≡ other
  role_same subject one other same first second =
      let links = far_one shape rules (asked shape subject.domain) subject.user other.role one.links other.links (subst (λ (r : List ℕ). IsFar shape rules (asked shape subject.domain) subject.user r one.links) same first) second in
      (λ j. record { role = same j; links = links j })

  -- the roles have the names that are listed
  pub named_roles : (subject : Subject) (names : List (List ℕ)) (roles : List Reached) → AreImplied shape rules limit (asked shape subject.domain) subject.user names → AreReached shape rules limit subject roles → AreWith role_name (IsRoleOf shape rules subject) names roles
  named_roles subject names roles listed are = record {
    keys_are = implied_unique shape rules limit (asked shape subject.domain) subject.user (map role_name roles) names are.implied listed;
    each = are.far;
  }

  roles_one : (subject : Subject) (roles others : List Reached) → AreReached shape rules limit subject roles → AreReached shape rules limit subject others → roles ≡ others
  roles_one subject roles others one two =
      items_one role_name (IsRoleOf shape rules subject) (role_same subject) (map role_name others) roles others
      (named_roles subject (map role_name others) roles two.implied one) (record { keys_are = refl; each = two.far })

  entry_same : (one other : Entry) → one.subject ≡ other.subject → IsEntry shape rules limit one → IsEntry shape rules limit other → one ≡ other
  entry_same one other same first second =
      let roles = roles_one other.subject one.roles other.roles (subst (λ (s : Subject). AreReached shape rules limit s one.roles) same first) second in
      (λ j. record { subject = same j; roles = roles j })

  -- the entries have the subjects that are listed
  pub told_entries : (subjects : List Subject) (entries : List Entry) → AreSubjects shape rules subjects → AreEntries shape rules limit entries → AreWith subject_in (IsEntry shape rules limit) subjects entries
  told_entries subjects entries listed are = record { keys_are = subjects_one shape rules (map subject_in entries) subjects are.subjects listed; each = are.roles }

  entries_one : (entries others : List Entry) → AreEntries shape rules limit entries → AreEntries shape rules limit others → entries ≡ others
  entries_one entries others one two =
      items_one subject_in (IsEntry shape rules limit) entry_same (map subject_in others) entries others
      (told_entries (map subject_in others) entries two.subjects one) (record { keys_are = refl; each = two.roles })

-- what is known of one shape of the relation is known of the other
module _ (shapes : Shapes) (policy : Policy) (shape : RoleShape) (there : shape_of shapes.roles hierarchy ≡ Some shape) where
  -- the entries of a report
  record Known (text : List ℕ) : Type 0 where
    entries : List Entry
    are : AreEntries shape (rows policy (G hierarchy)) shapes.limit entries
    text_is : text ≡ report_text entries

  known : (text : List ℕ) → IsReport shapes policy text → Known text
  known text report =
      let same : report.shape ≡ shape = same_Some report.shape shape (sym report.there ∙ there) in
      record {
        entries = report.holds.0;
        are = subst (λ (s : RoleShape). AreEntries s (rows policy (G hierarchy)) shapes.limit report.holds.0) same report.holds.1;
        text_is = report.holds.2;
      }

  texts_one : (text other : List ℕ) → Known text → Known other → text ≡ other
  texts_one text other one two =
      one.text_is ∙ ap report_text (entries_one shape (rows policy (G hierarchy)) shapes.limit one.entries two.entries one.are two.are) ∙ sym two.text_is

  module _ (subjects : List Subject) (listed : AreSubjects shape (rows policy (G hierarchy)) subjects) where
    -- what is written is the report
    pub is_written : (text start new : List ℕ) → IsReport shapes policy text → start ≡ row_text default_writer header → AddsEntries shape (rows policy (G hierarchy)) shapes.limit start subjects new → new ≡ text
    is_written text start new report begun adds =
        let one = known text report in
        adds one.entries (told_entries shape (rows policy (G hierarchy)) shapes.limit subjects one.entries listed one.are)
        ∙ ap (λ (l : List ℕ). l ++ flat_map entry_text one.entries) begun ∙ sym one.text_is

    pub stops_written : (text start : List ℕ) (most : ℕ) (stop : ReportStop) → IsReport shapes policy text → start ≡ row_text default_writer header → StopsEntries shape (rows policy (G hierarchy)) shapes.limit most start subjects stop → IsStop most text stop
    stops_written text start most stop report begun stops =
        let one = known text report in
        subst (λ (l : List ℕ). IsStop most l stop) (ap (λ (l : List ℕ). l ++ flat_map entry_text one.entries) begun ∙ sym one.text_is)
        (stops one.entries (told_entries shape (rows policy (G hierarchy)) shapes.limit subjects one.entries listed one.are))

  pub stops_header : (text : List ℕ) (most : ℕ) (stop : ReportStop) → IsReport shapes policy text → IsStop most (row_text default_writer header) stop → IsStop most text stop
  stops_header text most stop report stopped =
      let one = known text report in
      subst (λ (l : List ℕ). IsStop most l stop) (sym one.text_is)
      (longer most (row_text default_writer header) (row_text default_writer header ++ flat_map entry_text one.entries) stop (in_front (row_text default_writer header) (flat_map entry_text one.entries)) stopped)

pub report_one : (shapes : Shapes) (policy : Policy) (text other : List ℕ) → IsReport shapes policy text → IsReport shapes policy other → text ≡ other
report_one shapes policy text other one two = texts_one shapes policy one.shape one.there text other (known shapes policy one.shape one.there text one) (known shapes policy one.shape one.there other two)

-- a stop at the report's text
pub report_stop : (shapes : Shapes) (policy : Policy) (text : List ℕ) (most : ℕ) (stop : ReportStop) → IsReport shapes policy text → IsStop most text stop → IsReportStop shapes policy most stop
report_stop shapes policy text most NoTable report stopped = absurd stopped
report_stop shapes policy text most TooLong report stopped = (text, report, stopped)
report_stop shapes policy text most NoMemory report stopped = tt

-- what is written in turn
module _ (shape : RoleShape) (rules : List Fields) where
  module _ (subject : Subject) (names : List (List ℕ)) (at : ℕ) (name : List ℕ) (links : ℕ) (within : at < length names) (read : name ≡ get_or names at name)
      (is : IsFar shape rules (asked shape subject.domain) subject.user name links) (old text : List ℕ) (so_far : AddsRoles shape rules subject old (take at names) text) where
    known_role : (one : Reached) → role_name one ≡ name → IsRoleOf shape rules subject one → one ≡ record { role = name; links = links }
    known_role one same far = role_same shape rules 0 subject one (record { role = name; links = links }) same far is

    -- the record of one role more
    pub roles_more : (new : List ℕ) → new ≡ text ++ row_text default_writer (record_of subject (record { role = name; links = links })) → AddsRoles shape rules subject old (take (at + 1) names) new
    roles_more new wrote =
        subst (λ (l : List (List ℕ)). AddsRoles shape rules subject old l new) (sym (take_more names at name within ∙ ap (λ (n : List ℕ). take at names ++ n ∷ []) (sym read)))
        (adds_one role_name (IsRoleOf shape rules subject) (role_text subject) old (take at names) name text so_far new (λ one same far. wrote ∙ ap (λ (r : Reached). text ++ role_text subject r) (sym (known_role one same far))))

    -- a record at which it stops
    pub roles_stop : (most : ℕ) (stop : ReportStop) → IsStop most (text ++ row_text default_writer (record_of subject (record { role = name; links = links }))) stop → StopsRoles shape rules subject most old names stop
    roles_stop most stop stopped =
        subst (λ (l : List (List ℕ)). StopsRoles shape rules subject most old l stop) (sym all)
        (stops_one role_name (IsRoleOf shape rules subject) (role_text subject) old (take at names) name text so_far most stop (drop (at + 1) names)
        (λ one same far. subst (λ (r : Reached). IsStop most (text ++ role_text subject r) stop) (sym (known_role one same far)) stopped))
      where
        all : names ≡ take at names ++ name ∷ drop (at + 1) names
        all = sym (take-append-drop at names) ∙ ap (λ (l : List (List ℕ)). take at names ++ l) (drop_more names at name within ∙ ap (λ (n : List ℕ). n ∷ drop (at + 1) names) (sym read))

  pub roles_all : (subject : Subject) (names : List (List ℕ)) (at : ℕ) (old new : List ℕ) → length names ≤ at → AddsRoles shape rules subject old (take at names) new → AddsRoles shape rules subject old names new
  roles_all subject names at old new behind = subst (λ (l : List (List ℕ)). AddsRoles shape rules subject old l new) (take_all at names behind)

  module _ (limit : ℕ) (subject : Subject) (domain : Option (List ℕ)) (names : List (List ℕ)) (asked_is : domain ≡ asked shape subject.domain) (listed : AreImplied shape rules limit domain subject.user names) where
    here : (roles : List Reached) → AreReached shape rules limit subject roles → AreWith role_name (IsRoleOf shape rules subject) names roles
    here roles = named_roles shape rules limit subject names roles (subst (λ (d : Option (List ℕ)). AreImplied shape rules limit d subject.user names) asked_is listed)

    -- the records of a subject are those of its roles
    pub subject_adds : (old new : List ℕ) → AddsRoles shape rules subject old names new → AddsSubject shape rules limit subject old new
    subject_adds old new adds roles are = adds roles (here roles are)

    pub subject_stops : (most : ℕ) (old : List ℕ) (stop : ReportStop) → StopsRoles shape rules subject most old names stop → StopsSubject shape rules limit subject most old stop
    subject_stops most old stop stops roles are = stops roles (here roles are)

  module _ (limit : ℕ) (old : List ℕ) (done : Keys) (key : Bor (List ℕ) × Bor (List ℕ)) (text : List ℕ) (so_far : AddsEntries shape rules limit old (map shown done) text) where
    -- the records of one subject more
    pub entries_more : (new : List ℕ) → AddsSubject shape rules limit (shown key) text new → AddsEntries shape rules limit old (map shown (done ++ key ∷ [])) new
    entries_more new adds =
        subst (λ (l : List Subject). AddsEntries shape rules limit old l new) (sym (map_push shown done key))
        (adds_one subject_in (IsEntry shape rules limit) entry_text old (map shown done) (shown key) text so_far new
        (λ entry same is. subst (λ (s : Subject). new ≡ text ++ roles_text s entry.roles) (sym same) (adds entry.roles (subst (λ (s : Subject). AreReached shape rules limit s entry.roles) same is))))

    -- a subject at which it stops
    pub entries_stop : (most : ℕ) (stop : ReportStop) (left : Keys) → StopsSubject shape rules limit (shown key) most text stop → StopsEntries shape rules limit most old (map shown (done ++ key ∷ left)) stop
    entries_stop most stop left stops =
        subst (λ (l : List Subject). StopsEntries shape rules limit most old l stop) (sym (map-append shown done (key ∷ left)))
        (stops_one subject_in (IsEntry shape rules limit) entry_text old (map shown done) (shown key) text so_far most stop (map shown left)
        (λ entry same is. subst (λ (s : Subject). IsStop most (text ++ roles_text s entry.roles) stop) (sym same) (stops entry.roles (subst (λ (s : Subject). AreReached shape rules limit s entry.roles) same is))))

-- the shape and the limit by which the relation g of a policy is asked
pub record IsAskedBy (shapes : Shapes) (shape : RoleShape) (limit : ℕ) : Type 0 where
  pub there : shape_of shapes.roles hierarchy ≡ Some shape
  pub limit_is : limit ≡ shapes.limit

module _ (shapes : Shapes) (policy : Policy) (shape : RoleShape) (limit : ℕ) (by : IsAskedBy shapes shape limit)
    (other : RoleShape) (rules : List Fields) (subjects : List Subject) (there : shape_of shapes.roles hierarchy ≡ Some other) (rules_are : rules ≡ rows policy (G hierarchy)) (listed : AreSubjects other rules subjects) where
  listed_there : AreSubjects shape (rows policy (G hierarchy)) subjects
  listed_there =
      subst (λ (s : RoleShape). AreSubjects s (rows policy (G hierarchy)) subjects) (same_Some other shape (sym there ∙ by.there))
      (subst (λ (l : List Fields). AreSubjects other l subjects) rules_are listed)

  pub written : (text start new : List ℕ) → IsReport shapes policy text → start ≡ row_text default_writer header → AddsEntries shape (rows policy (G hierarchy)) limit start subjects new → new ≡ text
  written text start new report begun adds =
      is_written shapes policy shape by.there subjects listed_there text start new report begun
      (subst (λ (n : ℕ). AddsEntries shape (rows policy (G hierarchy)) n start subjects new) by.limit_is adds)

  pub stopped : (text start : List ℕ) (most : ℕ) (stop : ReportStop) → IsReport shapes policy text → start ≡ row_text default_writer header → StopsEntries shape (rows policy (G hierarchy)) limit most start subjects stop → IsStop most text stop
  stopped text start most stop report begun stops =
      stops_written shapes policy shape by.there subjects listed_there text start most stop report begun
      (subst (λ (n : ℕ). StopsEntries shape (rows policy (G hierarchy)) n most start subjects stop) by.limit_is stops)
