-- What an index finds for a request by a plan, step by step.
use Rattle.std.specs.Prelude.{◌≡◌, ◌⊎◌, ℕ, Bool, List, [], ◌∷◌, map, Option, Some, None}
use Rattle.std.specs.List.{AllZip, list_any}
use Rattle.perm_base.specs.RoleShapes.{shape_of}
use Rattle.perm_base.specs.declared.shapes.RoleShape.{RoleShape}
use Rattle.perm_base.specs.declared.shapes.TableId.TheVariants.{G}
use Rattle.perm_value.specs.Datum.{Datum}
use Rattle.perm_value.specs.Datum as datums
use Rattle.perm_value.specs.Seen.{datum}
use Rattle.policy_index.specs.Found.{AddsSlots}
use Rattle.policy_index.specs.Hashes.{IsKeyOf}
use Rattle.policy_index.specs.Indexed.{Indexed, IsIndexOf}
use Rattle.policy_index.specs.Keys.{KeyParts, agrees}
use Rattle.policy_state.specs.States.{State, tables}
use Rattle.policy_table.specs.Tables.{Fields, rows}
use Rattle.role_meaning.specs.Implied.{AreImplied}
use Rattle.matcher_meaning.specs.Calls.{text_of}
use Rattle.decision.specs.Plans.{Asked, Pair}
use Rattle.decision.specs.Helps.KeptPlans.{asked_seen, pair_seen, value_at}
use Rattle.decision.specs.declared.asking.Asking.{Asking}
use Rattle.decision.specs.declared.found_rows.Gathered.{Gathered}
use Rattle.decision.specs.declared.found_rows.Gathered.TheVariants as gathered
use Rattle.decision.specs.declared.found_rows.Sought.{Sought}
use Rattle.decision.specs.declared.found_rows.Sought.TheVariants as sought
use Rattle.decision.specs.declared.plan.AskedColumns.{AskedColumns}
use Rattle.decision.specs.declared.plan.By.{By}
use Rattle.decision.specs.declared.plan.By.TheVariants as by
use Rattle.decision.specs.declared.plan.KeptPlan.{KeptPlan}

-- the request's value at a place is this text
abbrev pub IsTextAt : List Datum → Option ℕ → List ℕ → Type 0
IsTextAt values place text = value_at values place ≡ Some (datums.text text)

-- the request's values in the columns that are compared are these texts
abbrev pub AreTexts : List Datum → List Pair → List (List ℕ) → Type 0
AreTexts values pairs texts = AllZip (λ (pair : Pair) (text : List ℕ). IsTextAt values pair.request text) pairs texts

-- it has another value there than a text
abbrev pub IsNoText : List Datum → Option ℕ → Type 0
IsNoText values place = (d : Datum) × (value_at values place ≡ Some d) × (text_of d ≡ None)

-- in one of the columns that are compared
abbrev pub SomeIsNoText : List Datum → List Pair → Type 0
SomeIsNoText values [] = ⊥
SomeIsNoText values (pair ∷ pairs) = IsNoText values pair.request ⊎ SomeIsNoText values pairs

-- what is sought: the texts under their hash, or nothing since one is none
abbrev pub HaveTexts : List Datum → List Pair → Sought → Type 0
HaveTexts values pairs (sought.Under hash) = (texts : List (List ℕ)) × AreTexts values pairs texts × IsKeyOf hash texts
HaveTexts values pairs sought.Nowhere = SomeIsNoText values pairs
HaveTexts values pairs sought.Unknown = Unit {0}

-- the slots of all rows that agree with the request's texts are added
abbrev pub FindsTexts : List Datum → List Pair → List ℕ → Indexed → (old new : List ℕ) → Type 0
FindsTexts values pairs asked index old new =
    (texts : List (List ℕ)) × AreTexts values pairs texts × ((by_slot : List Fields) → IsIndexOf index by_slot → AddsSlots (agrees index.key texts asked) by_slot old new)

abbrev pub IsSoughtBy : List Datum → List Pair → List ℕ → Indexed → (old new : List ℕ) → Gathered → Type 0
IsSoughtBy values pairs asked index old new gathered.Slots = FindsTexts values pairs asked index old new
IsSoughtBy values pairs asked index old new gathered.Nothing = SomeIsNoText values pairs
IsSoughtBy values pairs asked index old new gathered.Unknown = Unit {0}

-- the row has one of these names in the one column of a key
abbrev pub has_some_name : KeyParts → List (List ℕ) → Fields → Bool
has_some_name key names fields = list_any (λ (name : List ℕ). agrees key (name ∷ []) [] fields) names

-- the slots of all rows that have one of these names are added
abbrev pub GathersNames : List (List ℕ) → Indexed → (old new : List ℕ) → Type 0
GathersNames names index old new = (by_slot : List Fields) → IsIndexOf index by_slot → AddsSlots (has_some_name index.key names) by_slot old new

-- the domain that a question names: the request's text at a place, or none
abbrev pub IsDomainOf : List Datum → Option (Option ℕ) → Option (List ℕ) → Type 0
IsDomainOf values None domain = domain ≡ None
IsDomainOf values (Some place) domain = (text : List ℕ) × IsTextAt values place text × (domain ≡ Some text)

-- the slots of all rows are added that name the asked name or one of its roles
pub record FindsRoles (values : List Datum) (state : State) (is : Asked) (index : Indexed) (old new : List ℕ) : Type 0 where
  pub name : List ℕ
  pub named : IsTextAt values is.request name
  pub domain : Option (List ℕ)
  pub domain_is : IsDomainOf values is.domain domain
  pub shape : RoleShape
  pub shaped : shape_of state.shapes.roles is.number ≡ Some shape
  pub names : List (List ℕ)
  pub implied : AreImplied shape (rows (tables state) (G is.number)) state.shapes.limit domain name names
  pub adds : GathersNames (name ∷ names) index old new

abbrev pub IsSoughtByRoles : List Datum → State → Asked → Indexed → (old new : List ℕ) → Gathered → Type 0
IsSoughtByRoles values state is index old new gathered.Slots = FindsRoles values state is index old new
IsSoughtByRoles values state is index old new gathered.Nothing = ⊥
IsSoughtByRoles values state is index old new gathered.Unknown = Unit {0}

-- a pattern beside the texts: the request has a text for it
abbrev pub FindsFitting : List Datum → List Pair → Option ℕ → Indexed → (old new : List ℕ) → Type 0
FindsFitting values pairs place index old new = (asked : List ℕ) × IsTextAt values place asked × FindsTexts values pairs asked index old new

-- what is found by each part of a plan
abbrev pub FindsBy : List Datum → State → List Pair → By → Indexed → (old new : List ℕ) → Gathered → Type 0
FindsBy values state pairs by.Texts index old new found = IsSoughtBy values pairs [] index old new found
FindsBy values state pairs (by.Pattern is) index old new gathered.Slots = FindsFitting values pairs is.request index old new
FindsBy values state pairs (by.Pattern is) index old new gathered.Nothing = SomeIsNoText values pairs
FindsBy values state pairs (by.Pattern is) index old new gathered.Unknown = Unit {0}
FindsBy values state pairs (by.Roles is) index old new found = IsSoughtByRoles values state (asked_seen is) index old new found

-- by the plan
abbrev pub AreGathered : Asking → KeptPlan → Indexed → List ℕ → Gathered → Type 0
AreGathered asking kept index new found = FindsBy (map datum asking.request.now) asking.state.now (map pair_seen kept.pairs.items) kept.by index [] new found

abbrev pub AreGatheredByRoles : Asking → AskedColumns → Indexed → (old new : List ℕ) → Gathered → Type 0
AreGatheredByRoles asking is index old new found = IsSoughtByRoles (map datum asking.request.now) asking.state.now (asked_seen is) index old new found
