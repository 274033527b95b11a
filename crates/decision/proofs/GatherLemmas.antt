-- What an index finds for texts and for names, one after the other.
use Rattle.std.proofs.Common.{◌≡◌, inl, inr, ℕ, zero, suc, ◌+◌, ◌<◌, ◌||◌, Bool, true, false, List, [], ◌∷◌, ◌++◌, length, map, take, get_or, Option, Some, None, refl, sym, ap, subst, ◌∙◌, arith}
use Rattle.std.specs.Prelude.{option_and_then}
use Rattle.std.proofs.lemmas.List.{get_or-map, length-map, map-append, take_more}
use Rattle.std.proofs.lemmas.List.Folds.{list_any-append}
use Rattle.perm_value.specs.Datum.{Datum}
use Rattle.perm_value.specs.Datum as datums
use Rattle.policy_index.specs.Found.{AddsSlots}
use Rattle.policy_index.specs.Hashes.{IsKeyOf}
use Rattle.policy_index.specs.Indexed.{Indexed, IsIndexOf}
use Rattle.policy_index.specs.Keys.{agrees}
use Rattle.policy_index.proofs.CallerLemmas.{slots_both, slots_none}
use Rattle.policy_state.specs.States.{State}
use Rattle.policy_table.specs.Tables.{Fields}
use Rattle.matcher_meaning.specs.Calls.{text_of}
use Rattle.decision.specs.Plans.{Pair}
use Rattle.decision.specs.Helps.FoundRows.{AreTexts, FindsBy, GathersNames, IsNoText, IsSoughtBy, IsTextAt, SomeIsNoText, has_some_name}
use Rattle.decision.specs.Helps.KeptPlans.{pair_seen, value_at}
use Rattle.decision.specs.declared.found_rows.Gathered.{Gathered}
use Rattle.decision.specs.declared.found_rows.Gathered.TheVariants as gathered
use Rattle.decision.specs.declared.plan.By.TheVariants as by
use Rattle.decision.specs.declared.plan.FittingColumns.{FittingColumns}
use Rattle.decision.specs.declared.plan.EqualColumns.{EqualColumns}
use Rattle.decision.proofs.RowLemmas.{zip_append}

-- the texts of the first columns that are compared, under their hash
pub record SoFar (values : List Datum) (pairs : List Pair) (hash : ℕ) : Type 0 where
  pub texts : List (List ℕ)
  pub are : AreTexts values pairs texts
  pub key : IsKeyOf hash texts

pub so_far_none : (values : List Datum) (hash : ℕ) → IsKeyOf hash [] → SoFar values [] hash
so_far_none values hash is = record { texts = []; are = tt; key = is }

pub so_far_more : (values : List Datum) (before : List Pair) (pair : Pair) (hash next : ℕ) (text : List ℕ) → IsTextAt values pair.request text → ((texts : List (List ℕ)) → IsKeyOf hash texts → IsKeyOf next (texts ++ text ∷ [])) → SoFar values before hash → SoFar values (before ++ pair ∷ []) next
so_far_more values before pair hash next text is more so = record {
  texts = so.texts ++ text ∷ [];
  are = zip_append (λ (p : Pair) (t : List ℕ). IsTextAt values p.request t) before (pair ∷ []) so.texts (text ∷ []) so.are (is, tt);
  key = more so.texts so.key;
}

-- a value that is a text
pub text_at_is : (values : List Datum) (place : Option ℕ) (d : Datum) (text : List ℕ) → value_at values place ≡ Some d → text_of d ≡ Some text → IsTextAt values place text
text_at_is values place (datums.text own) text value is = let same : own ≡ text = cc in value ∙ ap (λ (t : List ℕ). Some (datums.text t)) same
text_at_is values place datums.nothing text value is = absurd cc
text_at_is values place (datums.truth b) text value is = absurd cc
text_at_is values place (datums.whole n) text value is = absurd cc
text_at_is values place (datums.list ds) text value is = absurd cc
text_at_is values place (datums.object ms) text value is = absurd cc

-- what `text_at` gives
pub text_there : (values : List Datum) (place : Option ℕ) (text : List ℕ) → option_and_then text_of (value_at values place) ≡ Some text → IsTextAt values place text
text_there values place text is = found (value_at values place) refl is
  where
    found : (o : Option Datum) → value_at values place ≡ o → option_and_then text_of o ≡ Some text → IsTextAt values place text
    found None value is = absurd cc
    found (Some d) value is = text_at_is values place d text value is

-- a value that is no text, behind others
pub no_text_at : (values : List Datum) (pairs : List Pair) (at : ℕ) (pair : Pair) → at < length pairs → get_or pairs at pair ≡ pair → IsNoText values pair.request → SomeIsNoText values pairs
no_text_at values [] at pair within here none = absurd (omega (arith, within))
no_text_at values (p ∷ ps) zero pair within here none = inl (subst (λ (q : Pair). IsNoText values q.request) (sym here) none)
no_text_at values (p ∷ ps) (suc at) pair within here none = inr (no_text_at values ps at pair (omega (arith, within)) here none)

-- the same where the columns are kept as places
pub so_far_next : (values : List Datum) (pairs : List EqualColumns) (at : ℕ) (default : EqualColumns) (place : Option ℕ) (hash next : ℕ) (d : Datum) (text : List ℕ) → at < length pairs → value_at values place ≡ Some d → place ≡ (get_or pairs at default).request → text_of d ≡ Some text
    → ((texts : List (List ℕ)) → IsKeyOf hash texts → IsKeyOf next (texts ++ text ∷ [])) → SoFar values (map pair_seen (take at pairs)) hash → SoFar values (map pair_seen (take (at + 1) pairs)) next
so_far_next values pairs at default place hash next d text within value here is more so =
    subst (λ (l : List Pair). SoFar values l next) (sym longer)
    (so_far_more values (map pair_seen (take at pairs)) (pair_seen (get_or pairs at default)) hash next text (subst (λ (p : Option ℕ). IsTextAt values p text) here (text_at_is values place d text value is)) more so)
  where
    longer : map pair_seen (take (at + 1) pairs) ≡ map pair_seen (take at pairs) ++ pair_seen (get_or pairs at default) ∷ []
    longer = ap (map pair_seen) (take_more pairs at default within) ∙ map-append pair_seen (take at pairs) (get_or pairs at default ∷ [])

pub no_text_next : (values : List Datum) (pairs : List EqualColumns) (at : ℕ) (default : EqualColumns) (place : Option ℕ) (d : Datum) → at < length pairs → value_at values place ≡ Some d → place ≡ (get_or pairs at default).request → text_of d ≡ None → SomeIsNoText values (map pair_seen pairs)
no_text_next values pairs at default place d within value here is =
    no_text_at values (map pair_seen pairs) at (pair_seen (get_or pairs at default)) (omega (arith, within, length-map pairs pair_seen)) (get_or-map pair_seen pairs at default (pair_seen (get_or pairs at default)) within)
    (subst (IsNoText values) here (d, value, is))

-- ---- names

-- no names are found by nothing
pub names_none : (index : Indexed) (slots : List ℕ) → GathersNames [] index slots slots
names_none index slots by_slot is = slots_none (has_some_name index.key []) by_slot slots (λ fields. refl)

-- one more name
pub names_more : (index : Indexed) (names : List (List ℕ)) (name : List ℕ) (old mid new : List ℕ) → GathersNames names index old mid → ((by_slot : List Fields) → IsIndexOf index by_slot → AddsSlots (agrees index.key (name ∷ []) []) by_slot mid new)
    → GathersNames (names ++ name ∷ []) index old new
names_more index names name old mid new first second by_slot is =
    slots_both (has_some_name index.key names) (agrees index.key (name ∷ []) []) (has_some_name index.key (names ++ name ∷ [])) by_slot old mid new
    (λ fields. list_any-append (λ (n : List ℕ). agrees index.key (n ∷ []) [] fields) names (name ∷ []) ∙ ap (λ (b : Bool). has_some_name index.key names fields || b) (or_false (agrees index.key (name ∷ []) [] fields)))
    (first by_slot is) (second by_slot is)
  where
    or_false : (b : Bool) → (b || false) ≡ b
    or_false true = refl
    or_false false = refl

-- the asked name before its roles
pub names_first : (index : Indexed) (name : List ℕ) (names : List (List ℕ)) (old mid new : List ℕ) → ((by_slot : List Fields) → IsIndexOf index by_slot → AddsSlots (agrees index.key (name ∷ []) []) by_slot old mid) → GathersNames names index mid new
    → GathersNames (name ∷ names) index old new
names_first index name names old mid new first second by_slot is =
    slots_both (agrees index.key (name ∷ []) []) (has_some_name index.key names) (has_some_name index.key (name ∷ names)) by_slot old mid new (λ fields. refl) (first by_slot is) (second by_slot is)

-- ---- by the plan

-- a pattern beside the texts
pub sought_fitting : (values : List Datum) (state : State) (pairs : List Pair) (is : FittingColumns) (asked : List ℕ) (index : Indexed) (old new : List ℕ) (g : Gathered) → IsTextAt values is.request asked → IsSoughtBy values pairs asked index old new g → FindsBy values state pairs (by.Pattern is) index old new g
sought_fitting values state pairs is asked index old new gathered.Slots value finds = (asked, value, finds)
sought_fitting values state pairs is asked index old new gathered.Nothing value some = some
sought_fitting values state pairs is asked index old new gathered.Unknown value none = tt
