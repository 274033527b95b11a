-- What a request has to have so that rows are left out, and the rows that are.
use Rattle.std.proofs.Common.{◌≡◌, ◌⊎◌, inl, inr, ℕ, zero, suc, ◌≤◌, ◌&&◌, ◌||◌, ◌==◌, Bool, true, false, not, cond, true≢false, List, [], ◌∷◌, length, map, get_or, Option, Some, None, Result, refl, sym, ap, subst, ◌∙◌, arith}
use Rattle.std.specs.Prelude.{All, filter, is_some, nat_le, option_and_then, position, slice_get}
use Rattle.std.specs.List.{AllByRecursion, Contains, list_all, list_any}
use Rattle.std.specs.Option.{option_map_or}
use Rattle.std.specs.Str.{bytes_eq}
use Rattle.std.proofs.lemmas.Bool.{and_parts, eqb-true, leb-true}
use Rattle.std.proofs.lemmas.List.{length-map}
use Rattle.std.proofs.lemmas.List.Quantifiers.{position-Some}
use Rattle.std.proofs.lemmas.Option.{same_Some, slice_get-get_or}
use Rattle.std.proofs.lemmas.Slice.Eq.{bytes_eq-Decides}
use Rattle.text_parts.proofs.CallerLemmas.{position-None}
use Rattle.effect_fold.specs.declared.fault.Fault.{Fault}
use Rattle.perm_base.specs.declared.shapes.RoleShape.{RoleShape}
use Rattle.perm_base.specs.declared.shapes.Shapes.{Shapes}
use Rattle.perm_base.specs.declared.shapes.TableId.TheVariants.{G}
use Rattle.perm_value.specs.Datum.{Datum}
use Rattle.perm_value.specs.Datum as datums
use Rattle.perm_value.specs.Seen.{datum}
use Rattle.perm_value.specs.declared.value.Value.{Value}
use Rattle.policy_index.specs.Indexed.{Indexed}
use Rattle.policy_index.specs.Keys.{KeyParts, agrees, fits_pattern, has_texts as has_texts_in, of_column}
use Rattle.policy_index.specs.declared.key.FrontColumn.{FrontColumn}
use Rattle.policy_state.specs.States.{State, tables}
use Rattle.policy_table.specs.Tables.{Fields, rows}
use Rattle.role_meaning.specs.Implied.{AreImplied}
use Rattle.role_meaning.specs.Links.{IsLinked, Reaches, role_of}
use Rattle.role_meaning.proofs.CallerLemmas.{map_stands, stands_cases, stands_nowhere}
use Rattle.matcher_read.specs.Expression.{Expression}
use Rattle.model_conf.specs.ModelText.{ModelParts}
use Rattle.model_conf.specs.Shapes.{place_of}
use Rattle.model_conf.specs.Uses.{Use, first_by_place, first_undeclared, is_declared, sooner, uses}
use Rattle.matcher_meaning.specs.Calls.{text_of}
use Rattle.matcher_meaning.specs.Cases.{Case, IsLinkedBy, at_column, at_row, where_refused}
use Rattle.matcher_meaning.specs.Comes.{TruthIs}
use Rattle.matcher_meaning.specs.Verdicts.{case_of}
use Rattle.decision.specs.Plans.{Asked, Fitting, first_fitting, first_question, pairs_in, policy_places}
use Rattle.decision.specs.Helps.FoundRows.{AreTexts, FindsRoles, IsTextAt, SomeIsNoText, has_some_name}
use Rattle.decision.specs.Helps.LeftOut.{IsLeftOut}
use Rattle.decision.specs.Helps.KeptPlans.{IsPlan, has_text_at, names_of, parts_of_plan, serves, value_at}
use Rattle.decision.specs.declared.plan.KeptPlan.{KeptPlan}
use Rattle.decision.proofs.LeftOutLemmas.{HasValues, HoldsText, SomeExcludes, are_declared, left_out}
use Rattle.decision.proofs.PlanLemmas.{HasField, no_text_excludes, pattern_excludes, role_excludes, texts_exclude}

-- ---- what a model declares

none_left : (u : Use) (rest : List Use) (test all : Bool) → first_by_place (cond (not test) (u ∷ rest) rest) ≡ None → (first_by_place rest ≡ None → all ≡ true) → (test && all) ≡ true
none_left u rest true all none are = are none
none_left u rest false all none are = let some : ◌≡◌ {A = Option Use} (Some (sooner u (first_by_place rest))) None = none in absurd cc

all_pass : (test : Use → Bool) (us : List Use) → first_by_place (filter (λ (u : Use). not (test u)) us) ≡ None → list_all test us ≡ true
all_pass test [] none = refl
all_pass test (u ∷ us) none = none_left u (filter (λ (u : Use). not (test u)) us) (test u) (list_all test us) none (all_pass test us)

pub all_declared : (model : ModelParts) (us : List Use) → first_undeclared model.request model.policy model.relations us ≡ None → are_declared model us ≡ true
unfolding first_undeclared
all_declared model us none = all_pass (is_declared model.request model.policy model.relations) us none

-- ---- what a request has

value_there : (columns : List (List ℕ)) (values : List Datum) → length values ≡ length columns → (column : List ℕ) → list_any (bytes_eq column) columns ≡ true → (d : Datum) × (at_column columns values column ≡ Some d)
value_there columns values many column any = by (position (bytes_eq column) columns) refl
  where
    by : (found : Option ℕ) → position (bytes_eq column) columns ≡ found → (d : Datum) × (at_column columns values column ≡ Some d)
    by (Some place) is = (
      get_or values place datums.nothing,
      ap (λ (at : Option ℕ). option_and_then (λ n. slice_get values n) at) is
          ∙ slice_get-get_or values place datums.nothing (omega (arith, many, (position-Some (bytes_eq column) columns place [] is).0)),
    )
    by None is = absurd (true≢false (sym any ∙ position-None (bytes_eq column) columns is))

text_here : (o : Option Datum) → is_some (option_and_then text_of o) ≡ true → (t : List ℕ) × (o ≡ Some (datums.text t))
text_here (Some (datums.text t)) is = (t, refl)
text_here (Some _) is = absurd (true≢false (sym is))
text_here None is = absurd (true≢false (sym is))

texts_there : (case : Case) (columns : List (List ℕ)) → list_all (has_text_at case.request) (map (place_of case.model.request) columns) ≡ true → AllByRecursion (HoldsText case) columns
texts_there case [] all = tt
texts_there case (column ∷ columns) all =
    let parts = and_parts (has_text_at case.request (place_of case.model.request column)) (list_all (has_text_at case.request) (map (place_of case.model.request) columns)) all in
    (text_here (value_at case.request (place_of case.model.request column)) parts.0, texts_there case columns parts.1)

-- ---- names that a name has as its roles

-- a name that is reached from another stands as a role
reached_is_role : (shape : RoleShape) (rows : List Fields) (domain : Option (List ℕ)) (links : ℕ) (x y : List ℕ) → Reaches shape rows domain links x y → (y ≡ x → ⊥) → Contains (map role_of rows) y
unfolding Reaches
reached_is_role shape rows domain zero x y reaches differs = absurd (differs (sym reaches))
reached_is_role shape rows domain (suc links) x y (inl same) differs = absurd (differs (sym same))
reached_is_role shape rows domain (suc links) x y (inr link) differs = by (bytes_eq (role_of link.row) y) refl (reached_is_role shape rows domain links (role_of link.row) y link.holds)
  where
    by : (b : Bool) → bytes_eq (role_of link.row) y ≡ b → ((y ≡ role_of link.row → ⊥) → Contains (map role_of rows) y) → Contains (map role_of rows) y
    by true is rest = subst (Contains (map role_of rows)) ((bytes_eq-Decides (role_of link.row) y).0 is) (map_stands role_of rows link.row link.stands)
    by false is rest = rest (λ e. true≢false (sym ((bytes_eq-Decides (role_of link.row) y).1 (sym e)) ∙ is))

-- a name that another reaches is that one, or one of its implied roles
role_or_itself : (shape : RoleShape) (rows : List Fields) (limit : ℕ) (domain : Option (List ℕ)) (x y : List ℕ) (names : List (List ℕ)) → AreImplied shape rows limit domain x names → IsLinked shape rows limit domain x y → (x ≡ y) ⊎ Contains names y
role_or_itself shape rows limit domain x y names implied linked = by (bytes_eq x y) refl
  where
    by : (b : Bool) → bytes_eq x y ≡ b → (x ≡ y) ⊎ Contains names y
    by true is = inl ((bytes_eq-Decides x y).0 is)
    by false is =
        let differs : y ≡ x → ⊥ = λ e. true≢false (sym ((bytes_eq-Decides x y).1 (sym e)) ∙ is) in
        inr ((implied.members y).1 (record { other = differs; linked = linked; role = reached_is_role shape rows domain limit x y linked differs }))

-- a row with one of the names in the column has one
name_found : (key : KeyParts) (column : ℕ) (names : List (List ℕ)) (name field : List ℕ) (fields : Fields) → key ≡ of_column column → slice_get fields column ≡ Some field → (name ≡ field) ⊎ Contains names field → has_some_name key (name ∷ names) fields ≡ true
name_found key column names name field fields is there which =
    ap (λ (k : KeyParts). has_some_name k (name ∷ names) fields) is ∙ by which
  where
    -- by one name
    one : (other : List ℕ) → agrees (of_column column) (other ∷ []) [] fields ≡ bytes_eq other field
    one other = ap (λ (o : Option (List ℕ)). (option_map_or (bytes_eq other) o false && true) && true) there ∙ (and_true (bytes_eq other field && true) ∙ and_true (bytes_eq other field))
      where
        and_true : (b : Bool) → (b && true) ≡ b
        and_true true = refl
        and_true false = refl

    by : (name ≡ field) ⊎ Contains names field → has_some_name (of_column column) (name ∷ names) fields ≡ true
    by (inl same) = ap (λ (b : Bool). b || list_any (λ (n : List ℕ). agrees (of_column column) (n ∷ []) [] fields) names) (one name ∙ (bytes_eq-Decides name field).1 same)
    by (inr stands) = later (agrees (of_column column) (name ∷ []) [] fields) names (among names stands)
      where
        later : (b : Bool) (l : List (List ℕ)) → list_any (λ (n : List ℕ). agrees (of_column column) (n ∷ []) [] fields) l ≡ true → (b || list_any (λ (n : List ℕ). agrees (of_column column) (n ∷ []) [] fields) l) ≡ true
        later true l is = refl
        later false l is = is

        which_one : (n : List ℕ) (ns : List (List ℕ)) → (n ≡ field) ⊎ Contains ns field → (Contains ns field → list_any (λ (m : List ℕ). agrees (of_column column) (m ∷ []) [] fields) ns ≡ true)
            → (agrees (of_column column) (n ∷ []) [] fields || list_any (λ (m : List ℕ). agrees (of_column column) (m ∷ []) [] fields) ns) ≡ true
        which_one n ns (inl same) rest = ap (λ (b : Bool). b || list_any (λ (m : List ℕ). agrees (of_column column) (m ∷ []) [] fields) ns) (one n ∙ (bytes_eq-Decides n field).1 same)
        which_one n ns (inr behind) rest = later (agrees (of_column column) (n ∷ []) [] fields) ns (rest behind)

        among : (l : List (List ℕ)) → Contains l field → list_any (λ (n : List ℕ). agrees (of_column column) (n ∷ []) [] fields) l ≡ true
        among [] stands = absurd (stands_nowhere field stands)
        among (n ∷ ns) stands = which_one n ns (stands_cases n ns field stands) (among ns)

-- ---- rows that are left out

module _ (model : ModelParts) (shapes : Shapes) (state : State) (values : List Value) (kept : KeptPlan) (is : IsPlan model kept) (able : serves model shapes values kept ≡ true) (shaped : state.shapes ≡ shapes)
    (law : (case : Case) (e : Expression) → (t : Result Bool Fault) × TruthIs case e t) where
  abbrev asked : Case
  asked = case_of model state.shapes (tables state) (map datum values)

  parts : (length values ≡ length model.request) × (length model.policy ≤ shapes.columns) × (list_all (has_text_at (map datum values)) kept.names.items ≡ true)
  parts =
      let outer = and_parts (length values == length model.request && nat_le (length model.policy) shapes.columns) (list_all (has_text_at (map datum values)) kept.names.items) able in
      let inner = and_parts (length values == length model.request) (nat_le (length model.policy) shapes.columns) outer.0 in
      (eqb-true (length values) (length model.request) inner.0, leb-true (length model.policy) shapes.columns inner.1, outer.1)

  pub has_values : HasValues asked
  has_values = value_there model.request (map datum values) (length-map values datum ∙ parts.0)

  pub has_texts : AllByRecursion (HoldsText asked) (names_of model)
  has_texts = texts_there asked (names_of model) (ap (list_all (has_text_at (map datum values))) (sym is.names) ∙ parts.2)

  -- a row that some part which counts excludes
  pub row_left_out : (fields : Fields) → ((refused : Option (ℕ × List ℕ)) → SomeExcludes (where_refused (at_row asked (Some fields)) refused) (parts_of_plan model)) → IsLeftOut asked fields
  row_left_out fields some refused =
      left_out (where_refused (at_row asked (Some fields)) refused) model.matcher has_values (all_declared model (uses model.matcher) is.declared) has_texts (some refused) (law (where_refused (at_row asked (Some fields)) refused) model.matcher)

  -- a row has a field in each column of the policy
  pub has_fields : (fields : Fields) → length model.policy ≤ length fields → (refused : Option (ℕ × List ℕ)) → HasField (where_refused (at_row asked (Some fields)) refused) fields refl
  has_fields fields long refused column at place =
      (get_or fields at [], slice_get-get_or fields at [] (omega (arith, long, (position-Some (bytes_eq column) model.policy at [] place).0)))

  -- rows of the shapes have the model's columns
  pub long_rows : (table : List Fields) → All (λ (fields : Fields). ◌≡◌ {A = Option ℕ} (Some shapes.columns) (Some (length fields))) table → All (λ (fields : Fields). length model.policy ≤ length fields) table
  long_rows table columns = λ k d within. omega (arith, parts.1, same_Some shapes.columns (length (get_or table k d)) (columns k d within))

  -- a value that is no text leaves all rows out
  pub all_left_out : (rows : List Fields) → SomeIsNoText (map datum values) (pairs_in model (parts_of_plan model)) → All (IsLeftOut asked) rows
  all_left_out rows some k d within = row_left_out (get_or rows k d) (λ refused. no_text_excludes (where_refused (at_row asked (Some (get_or rows k d))) refused) (get_or rows k d) refl (parts_of_plan model) some)

  -- rows that do not agree with the texts, or whose pattern the text cannot fit, are left out
  pub texts_left_out : (key : KeyParts) (texts : List (List ℕ)) (fields : Fields) → length model.policy ≤ length fields → key.columns ≡ policy_places (pairs_in model (parts_of_plan model)) → key.pattern ≡ None
      → AreTexts (map datum values) (pairs_in model (parts_of_plan model)) texts → agrees key texts [] fields ≡ false → IsLeftOut asked fields
  texts_left_out key texts fields long columns pattern are other =
      row_left_out fields (λ refused.
      texts_exclude (where_refused (at_row asked (Some fields)) refused) fields refl (has_fields fields long refused) (parts_of_plan model) texts are
      (ap (λ (l : List ℕ). has l) (sym columns) ∙ left_false (has key.columns) (fits_pattern key.pattern [] fields) (ap (λ (p : Option FrontColumn). fits_pattern p [] fields) pattern) other))
    where
      has : List ℕ → Bool
      has columns = has_texts_in columns texts fields

      left_false : (a b : Bool) → b ≡ true → (a && b) ≡ false → a ≡ false
      left_false true b is other = absurd (true≢false (sym is ∙ other))
      left_false false b is other = refl

  pub pattern_left_out : (key : KeyParts) (texts : List (List ℕ)) (fitting : Fitting) (text : List ℕ) (fields : Fields) → length model.policy ≤ length fields → key.columns ≡ policy_places (pairs_in model (parts_of_plan model)) → key.pattern ≡ Some fitting.pattern
      → first_fitting model (parts_of_plan model) ≡ Some fitting → IsTextAt (map datum values) fitting.request text → AreTexts (map datum values) (pairs_in model (parts_of_plan model)) texts → agrees key texts text fields ≡ false → IsLeftOut asked fields
  pattern_left_out key texts fitting text fields long columns pattern first value are other = by (has_texts_in key.columns texts fields) refl
    where
      by : (b : Bool) → has_texts_in key.columns texts fields ≡ b → IsLeftOut asked fields
      by false has =
          row_left_out fields (λ refused.
          texts_exclude (where_refused (at_row asked (Some fields)) refused) fields refl (has_fields fields long refused) (parts_of_plan model) texts are (ap (λ (l : List ℕ). has_texts_in l texts fields) (sym columns) ∙ has))
      by true has =
          row_left_out fields (λ refused.
          pattern_excludes (where_refused (at_row asked (Some fields)) refused) fields refl (has_fields fields long refused) (parts_of_plan model) fitting text first value
          (ap (λ (p : Option FrontColumn). fits_pattern p text fields) (sym pattern) ∙ sym (ap (λ (b : Bool). b && fits_pattern key.pattern text fields) has) ∙ other))

  -- rows that name neither the asked name nor a role of it are left out
  pub roles_left_out : (one : Asked) (index : Indexed) (old new : List ℕ) (found : FindsRoles (map datum values) state one index old new) (fields : Fields) → length model.policy ≤ length fields → first_question model (parts_of_plan model) ≡ Some one
      → index.key ≡ of_column one.policy → has_some_name index.key (found.name ∷ found.names) fields ≡ false → IsLeftOut asked fields
  roles_left_out one index old new found fields long first key other =
      row_left_out fields (λ refused.
      role_excludes (where_refused (at_row asked (Some fields)) refused) fields refl (has_fields fields long refused) (parts_of_plan model) one found.name found.domain first found.named found.domain_is (λ field there linked. not_linked field there linked))
    where
      not_linked : (field : List ℕ) → slice_get fields one.policy ≡ Some field → IsLinkedBy state.shapes (tables state) one.number found.name field found.domain → ⊥
      not_linked field there linked =
          true≢false (sym (name_found index.key one.policy found.names found.name field fields key there (role_or_itself found.shape (rows (tables state) (G one.number)) state.shapes.limit found.domain found.name field found.names found.implied
          (subst (λ (shape : RoleShape). IsLinked shape (rows (tables state) (G one.number)) state.shapes.limit found.domain found.name field) (same_Some linked.shape found.shape (sym linked.has ∙ found.shaped)) linked.linked))) ∙ other)
