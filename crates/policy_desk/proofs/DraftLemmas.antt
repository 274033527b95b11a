-- Drafts: what is known of their rules, and edits that are made in them step by step.
use Rattle.std.proofs.Common.{◌≡◌, ℕ, ◌<◌, ◌&&◌, ◌||◌, ◌==◌, Bool, true, false, List, [], ◌∷◌, All, filter, length, not, true≢false, get_or, Option, Some, None, refl, sym, ap, subst, ◌∙◌, arith}
use Rattle.std.specs.Prelude.{IfSome, is_some, option_map}
use Rattle.std.specs.Option.{option_map_or}
use Rattle.std.specs.Str.{bytes_eq}
use Rattle.std.proofs.lemmas.Bool.{and_parts, eqb-true}
use Rattle.std.proofs.lemmas.List.{append-nil}
use Rattle.std.proofs.lemmas.Map.Views.{Contains-from_any}
use Rattle.std.proofs.lemmas.Option.{slice_get-get_or}
use Rattle.edit_calls.proofs.CallerLemmas.{filter_through, places_have}
use Rattle.edit_calls.specs.Found.{AreKnown, FindFitting, KnownPlaces, rules_at}
use Rattle.edit_calls.specs.declared.call.Call.{Call}
use Rattle.edit_calls.specs.declared.call.Call.TheVariants.{Add, AddAll, AddEx, Remove, RemoveAll, Update, RemoveFiltered, UpdateFiltered, DeleteUser, DeleteRole}
use Rattle.perm_base.specs.declared.shapes.Shapes.{Shapes}
use Rattle.perm_base.specs.declared.shapes.TableId.{TableId}
use Rattle.policy_index.specs.Finders.{AreFindersIn, IsFinderIn, Sought}
use Rattle.policy_index.specs.Found.{FindRows}
use Rattle.policy_index.specs.Indexed.{IsIndexOf}
use Rattle.policy_desk.specs.Helps.Asked.{asked_values}
use Rattle.policy_query.proofs.CallerLemmas.{found_filter}
use Rattle.policy_query.specs.Found.{FindAsked}
use Rattle.policy_query.specs.Helps.Named.{FindRows as FindsAll}
use Rattle.policy_query.specs.Names.{is_asked, named_columns}
use Rattle.policy_table.specs.Changes.{changed, edited, flat}
use Rattle.policy_table.specs.Filters.{fits_filter, fits_values}
use Rattle.policy_table.specs.Held.{Held, IsPreparedFor}
use Rattle.policy_table.specs.Tables.{Fields, Lists, Policy, place, rows}
use Rattle.policy_table.specs.declared.change.Change.{Change}

-- ---- what is known

-- what holds of a value where there is one
pub where_some : {X : Type 0} (made : Option X) (P Q : X → Type 0) → ((x : X) → P x → Q x) → IfSome made P → IfSome made Q
where_some None P Q more told = tt
where_some (Some x) P Q more told = more x told

-- and of the value itself
pub when_some : {X : Type 0} (made : Option X) (value : X) → made ≡ Some value → (P : X → Type 0) → IfSome made P → P value
when_some {X} made value is P told = subst (λ (o : Option X). IfSome o P) is told

either : (a b : Bool) → b ≡ true → (a || b) ≡ true
either true b is = refl
either false b is = is

none : (left : Fields) → fits_values left [] ≡ true
none [] = refl
none (field ∷ fields) = refl

-- so it is with what is seen of the value
pub some_items : {X Y : Type 0} (made : Option X) (f : X → Y) (P : Y → Type 0) → IfSome made (λ x. P (f x)) → IfSome (option_map f made) P
some_items None f P told = tt
some_items (Some x) f P told = told

-- rows that are found are all that fit the filter
all_found : (test : Fields → Bool) (rules : List Fields) (places : List ℕ) → FindRows test rules places → FindsAll test rules places
all_found test rules places finds = record {
  rising = finds.rising;
  within = finds.within;
  each = λ at within passes.
      Contains-from_any (λ x y e. eqb-true x y e) at places (finds.each at (ap (λ (o : Option Fields). option_map_or test o false) (slice_get-get_or rules at [] within) ∙ passes));
}

pub found_fitting : (at : ℕ) (values : Fields) (policy now : Policy) (table : TableId) (places : List ℕ) → policy ≡ now → FindRows (λ (rule : Fields). fits_filter rule at values) (rows policy table) places → FindFitting at values (rows now table) places
found_fitting at values policy now table places is finds =
    subst (λ (p : Policy). FindFitting at values (rows p table) places) is (record {
      within = finds.within;
      same = found_filter (λ (rule : Fields). fits_filter rule at values) (rows policy table) places (all_found (λ (rule : Fields). fits_filter rule at values) (rows policy table) places finds);
    })

-- a rule of the role, and of the domain where one is named, fits the filter of these
asked_fits : (role : List ℕ) (domain : Option (List ℕ)) (rule : Fields) → named_columns (is_some domain) < length rule → is_asked 1 role domain rule ≡ true → fits_filter rule 1 (asked_values role domain) ≡ true
asked_fits role None [] long asked = absurd (omega (arith, long))
asked_fits role None (user ∷ []) long asked = absurd (omega (arith, long))
asked_fits role None (user ∷ own ∷ rest) long asked = λ j. either (length role == 0) (bytes_eq role own) (and_parts (bytes_eq role own) true asked).0 j && none rest j
asked_fits role (Some domain) [] long asked = absurd (omega (arith, long))
asked_fits role (Some domain) (user ∷ []) long asked = absurd (omega (arith, long))
asked_fits role (Some domain) (user ∷ own ∷ []) long asked = absurd (omega (arith, long))
asked_fits role (Some domain) (user ∷ own ∷ named ∷ rest) long asked =
    let both = and_parts (bytes_eq role own) (bytes_eq domain named) asked in
    λ j. either (length role == 0) (bytes_eq role own) both.0 j && (either (length domain == 0) (bytes_eq domain named) both.1 j && none rest j)

-- so the users of a role are found by the filter
pub found_users : (role : List ℕ) (domain : Option (List ℕ)) (rules : List Fields) (places : List ℕ) → All (λ (rule : Fields). named_columns (is_some domain) < length rule) rules → FindFitting 1 (asked_values role domain) rules places → FindAsked 1 role domain rules places
found_users role domain rules places columns known = record {
  within = known.within;
  same =
      sym (filter_through asked fits (rules_at rules places) (weaker (rules_at rules places) (places_have (λ (rule : Fields). named_columns (is_some domain) < length rule) rules places known.within columns)))
      ∙ ap (filter asked) known.same
      ∙ filter_through asked fits rules (weaker rules columns);
}
  where
    asked : Fields → Bool
    asked rule = is_asked 1 role domain rule

    fits : Fields → Bool
    fits rule = fits_filter rule 1 (asked_values role domain)

    weaker : (l : List Fields) → All (λ (rule : Fields). named_columns (is_some domain) < length rule) l → All (λ (rule : Fields). asked rule ≡ true → fits rule ≡ true) l
    weaker l all = λ k d within. asked_fits role domain (get_or l k d) (all k d within)

-- what holds whatever the value
pub some_always : {X : Type 0} {P : Type 0} (made : Option X) → P → IfSome made (λ _. P)
some_always None is = tt
some_always (Some x) is = is

-- nothing needs to be known
pub none_known : (shapes : Shapes) (policy : Policy) (known : KnownPlaces) (call : Call) → known ≡ record { rules = None; subjects = None } → AreKnown shapes policy known call
none_known shapes policy known call none = subst (λ (k : KnownPlaces). AreKnown shapes policy k call) (sym none) (by call)
  where
    by : (c : Call) → AreKnown shapes policy (record { rules = None; subjects = None }) c
    by (Add table rule) = tt
    by (AddAll table rules) = tt
    by (AddEx table rules) = tt
    by (Remove table rule) = tt
    by (RemoveAll table rules) = tt
    by (Update table pairs) = tt
    by (RemoveFiltered table at values) = tt
    by (UpdateFiltered table at values rules) = tt
    by (DeleteUser name) = (tt, tt)
    by (DeleteRole name) = (tt, tt)

no_changes : (edits : List (List Change)) → length edits ≡ 0 → edits ≡ []
no_changes [] none = refl
no_changes (edit ∷ edits) none = absurd (omega (arith, none))

-- where none is told, there are no edits
pub no_edits : (edits : List (List Change)) (told : Bool) → told ≡ (length edits == 0) → not told ≡ false → edits ≡ []
no_edits edits true is some = no_changes edits (eqb-true (length edits) 0 (sym is))
no_edits edits false is some = absurd (true≢false some)

-- ---- edits that are made

-- one edit as a list of changes
pub one_flat : (edits : List (List Change)) (edit : List Change) → edits ≡ edit ∷ [] → flat edits ≡ edit
one_flat edits edit one = ap flat one ∙ append-nil edit

-- finders of the slots as they are kept are those of another view of the same
pub finders_same : (finders : List Sought) (before after : Held) → after.slots ≡ before.slots → AreFindersIn before finders → AreFindersIn after finders
finders_same finders before after same are = λ k d within. by (get_or finders k d) (are k d within)
  where
    by : (finder : Sought) → IsFinderIn before finder → IsFinderIn after finder
    by finder is = record {
      plain = is.plain;
      index = subst (λ (l : Lists). IsIndexOf finder.index (option_map_or (λ (at : ℕ). get_or l at []) (place finder.table) [])) (sym same) is.index;
    }

-- what is left is ready in the tables, and leads where all does; the finders are of the tables
pub record Makes (end : Policy) (rest : List Change) (held : Held) (finders : List Sought) : Type 0 where
  pub tables : IsPreparedFor held rest
  pub finds : AreFindersIn held finders
  pub leads : edited rest held.policy ≡ end

pub makes_begin : (held : Held) (finders : List Sought) (prepared rest : List Change) → rest ≡ prepared → IsPreparedFor held prepared → AreFindersIn held finders → Makes (edited prepared held.policy) rest held finders
makes_begin held finders prepared rest same tables finds =
    subst (λ (l : List Change). Makes (edited prepared held.policy) l held finders) (sym same) (record { tables = tables; finds = finds; leads = refl })

-- one step is made
pub makes_more : (end : Policy) (step : Change) (changes rest : List Change) (held after : Held) (finders new : List Sought) → rest ≡ step ∷ changes → Makes end rest held finders → after.policy ≡ changed step held.policy
    → ((l : List Change) → IsPreparedFor held (step ∷ l) → IsPreparedFor after l) → AreFindersIn after new → Makes end changes after new
unfolding edited
makes_more end step changes rest held after finders new first makes policy tables finds =
    let here : Makes end (step ∷ changes) held finders = subst (λ (l : List Change). Makes end l held finders) first makes in
    record {
      tables = tables changes here.tables;
      finds = finds;
      leads = ap (edited changes) policy ∙ here.leads;
    }

-- all are
pub makes_end : (end : Policy) (rest : List Change) (held : Held) (finders : List Sought) → rest ≡ [] → Makes end rest held finders → held.policy ≡ end
unfolding edited
makes_end end rest held finders none makes = (subst (λ (l : List Change). Makes end l held finders) none makes).leads
