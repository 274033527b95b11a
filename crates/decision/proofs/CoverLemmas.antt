-- Rows that are looked at in place of all, and what follows from those of them.
use Rattle.std.proofs.Common.{◌≡◌, ◌⊎◌, inl, inr, ℕ, zero, suc, ◌+◌, ◌<◌, ◌≤◌, ◌==◌, ◌||◌, Bool, true, false, cond, List, [], ◌∷◌, ◌++◌, drop, find, get_or, length, All, Option, Some, None, Ok, refl, sym, ap, ◌∙◌, subst, arith}
use Rattle.std.specs.Prelude.{AllPairs, nat_eq, slice_get}
use Rattle.std.specs.List.{AllByRecursion, AllZip, Contains, list_any}
use Rattle.std.proofs.lemmas.Bool.{eqb-true, ne_eqb}
use Rattle.std.proofs.lemmas.Bool.Decides.{nat_tests}
use Rattle.std.proofs.lemmas.List.Elements.{All-from_recursion, recursion_from_All}
use Rattle.effect_fold.specs.Verdict.{Taken, allow_by, allows, ends, unsettled, verdict, verdict_at}
use Rattle.effect_fold.specs.declared.effect.Effect.{Effect}
use Rattle.effect_fold.specs.declared.effect.Effect.TheVariants as effect
use Rattle.effect_fold.specs.declared.outcome.Outcome.TheVariants.{Unmatched}
use Rattle.effect_fold.specs.declared.verdict.Verdict.{Verdict}
use Rattle.policy_table.specs.Tables.{Fields}
use Rattle.role_meaning.proofs.CallerLemmas.{pairs_head, pairs_tail, stands_behind, stands_cases, stands_here}
use Rattle.matcher_meaning.specs.Cases.{Case}
use Rattle.matcher_meaning.specs.Order.{Numbered, in_order_of, numbered, numbered_from}
use Rattle.matcher_meaning.specs.Perm.{Refusal, refused_at}
use Rattle.matcher_meaning.specs.Verdicts.{RowHasOutcome}
use Rattle.decision.proofs.RowLemmas.{each_middle, each_weaker, numbered_at}
use Rattle.decision.specs.Helps.Covers.{Covers}
use Rattle.decision.specs.Helps.LeftOut.{AreAllThatMatter, IsLeftOut, LeavesOut, LooksAtNone}
use Rattle.decision.specs.Helps.Outcomes.{IsJudgedOn}
use Rattle.decision.specs.declared.looked.Looked.{Looked}
use Rattle.decision.specs.declared.looked.Looked.TheVariants as ways

-- all rows are looked at
pub covers_all : (case : Case) (all : List Numbered) → Covers case all all
covers_all case [] = tt
covers_all case (row ∷ all) = inl (refl, covers_all case all)

-- one row more is left out
covers_more : (case : Case) (row : Numbered) (all some : List Numbered) → IsLeftOut case row.fields → Covers case all some → Covers case (row ∷ all) some
covers_more case row all [] out covers = (out, covers)
covers_more case row all (one ∷ some) out covers = inr (out, covers)

covers_left_out : (case : Case) (number : ℕ) (table : List Fields) → AllByRecursion (IsLeftOut case) table → Covers case (numbered_from number table) []
covers_left_out case number [] out = tt
covers_left_out case number (fields ∷ table) out = (out.0, covers_left_out case (suc number) table out.1)

-- no row is looked at
pub covers_none : (case : Case) (table : List Fields) → All (IsLeftOut case) table → Covers case (numbered_from 1 table) []
covers_none case table out = covers_left_out case 1 table (recursion_from_All (IsLeftOut case) table out)

-- what stands behind so many elements begins with the one at that place
first_behind : (table : List Fields) (at : ℕ) (fields : Fields) (rest : List Fields) → drop at table ≡ fields ∷ rest → (at < length table) × (get_or table at [] ≡ fields) × (drop (suc at) table ≡ rest)
first_behind [] zero fields rest e = absurd cc
first_behind [] (suc at) fields rest e = absurd cc
first_behind (one ∷ table) zero fields rest e =
    let same : one ≡ fields = cc in
    let others : table ≡ rest = cc in
    (omega arith, same, others)
first_behind (one ∷ table) (suc at) fields rest e =
    let found = first_behind table at fields rest e in
    (omega (arith, found.0), found.1, found.2)

-- nothing stands behind so many elements
nothing_behind : (table : List Fields) (at : ℕ) → drop at table ≡ [] → length table ≤ at
nothing_behind [] at e = omega arith
nothing_behind (one ∷ table) zero e = absurd cc
nothing_behind (one ∷ table) (suc at) e = omega (arith, nothing_behind table at e)

row_there : (table : List Fields) (at : ℕ) (fields : Fields) (rest : List Fields) → drop at table ≡ fields ∷ rest → slice_get table at ≡ Some fields
row_there [] zero fields rest e = absurd cc
row_there [] (suc at) fields rest e = absurd cc
row_there (one ∷ table) zero fields rest e = let same : one ≡ fields = cc in ap (λ (r : Fields). Some r) same
row_there (one ∷ table) (suc at) fields rest e = row_there table at fields rest e

-- the row at this place of the table
at_place : (table : List Fields) (at number : ℕ) (fields : Fields) (rest : List Fields) → number ≡ suc at → drop at table ≡ fields ∷ rest → get_or (numbered_from 1 table) at (numbered (suc at) []) ≡ numbered number fields
at_place table at number fields rest is e =
    let found = first_behind table at fields rest e in
    let same : 1 + at ≡ number = omega (arith, is) in
    numbered_at 1 table at (numbered (suc at) []) [] found.0 ∙ ap (λ (n : ℕ). numbered n (get_or table at [])) same ∙ ap (numbered number) found.1

-- a place before all others is none of them
none_of : (place : ℕ) (places : List ℕ) → AllByRecursion (λ (at : ℕ). place < at) places → list_any (nat_eq place) places ≡ false
none_of place [] later = refl
none_of place (at ∷ places) later = ap (λ (b : Bool). b || list_any (nat_eq place) places) (ne_eqb place at (λ e. absurd (omega (arith, later.0, e)))) ∙ none_of place places later.1

-- the first of rising places, and those behind it
rising_parts : (at : ℕ) (places : List ℕ) → AllPairs (λ (first second : ℕ). first < second) (at ∷ places) → AllByRecursion (λ (other : ℕ). at < other) places × AllPairs (λ (first second : ℕ). first < second) places
rising_parts at places rising = (
  recursion_from_All (λ (other : ℕ). at < other) places (pairs_head (λ (first second : ℕ). first < second) at places rising),
  pairs_tail (λ (first second : ℕ). first < second) at places rising,
)

-- the rows at rising places are looked at, of those behind the first places
covers_rest : (case : Case) (table : List Fields) (all places : List ℕ) (first number : ℕ) (rest : List Fields) → number ≡ suc first → drop first table ≡ rest → AllPairs (λ (one other : ℕ). one < other) places → AllByRecursion (λ (place : ℕ). first ≤ place) places
    → AllByRecursion (λ (place : ℕ). place < length table) places → ((place : ℕ) → first ≤ place → list_any (nat_eq place) all ≡ list_any (nat_eq place) places)
    → ((place : ℕ) (fields : Fields) → slice_get table place ≡ Some fields → list_any (nat_eq place) all ≡ false → IsLeftOut case fields) → Covers case (numbered_from number rest) (in_order_of places (numbered_from 1 table))
covers_rest case table all [] first number [] is e rising low within same out = tt
covers_rest case table all (place ∷ places) first number [] is e rising low within same out = absurd (omega (arith, within.0, low.0, nothing_behind table first e))
covers_rest case table all [] first number (fields ∷ rest) is e rising low within same out = (
  out first fields (row_there table first fields rest e) (same first (omega arith)),
  covers_rest case table all [] (suc first) (suc number) rest (omega (arith, is)) (first_behind table first fields rest e).2 rising tt tt (λ place later. same place (omega (arith, later))) out,
)
covers_rest case table all (place ∷ places) first number (fields ∷ rest) is e rising low within same out =
    by (first == place) refl
    (λ equal.
    covers_rest case table all places (suc first) (suc number) rest (omega (arith, is)) (first_behind table first fields rest e).2 parts.1
    (each_weaker (λ (other : ℕ). place < other) (λ (other : ℕ). suc first ≤ other) places (λ other less. omega (arith, less, equal)) parts.0) within.1
    (λ other later. same other (omega (arith, later)) ∙ ap (λ (b : Bool). b || list_any (nat_eq other) places) (ne_eqb other place (λ e. absurd (omega (arith, later, equal, e))))) out)
    (λ less.
    covers_rest case table all (place ∷ places) (suc first) (suc number) rest (omega (arith, is)) (first_behind table first fields rest e).2 rising
    (less, each_weaker (λ (other : ℕ). place < other) (λ (other : ℕ). suc first ≤ other) places (λ other more. omega (arith, less, more)) parts.0) within (λ other later. same other (omega (arith, later))) out)
  where
    parts : AllByRecursion (λ (other : ℕ). place < other) places × AllPairs (λ (one other : ℕ). one < other) places
    parts = rising_parts place places rising

    below : (m n : ℕ) → m ≤ n → (m == n) ≡ false → m < n
    below m n low differs = grind (arith, nat_tests)

    by : (b : Bool) → (first == place) ≡ b → (first ≡ place → Covers case (numbered_from (suc number) rest) (in_order_of places (numbered_from 1 table)))
        → (first < place → Covers case (numbered_from (suc number) rest) (in_order_of (place ∷ places) (numbered_from 1 table)))
        → Covers case (numbered number fields ∷ numbered_from (suc number) rest) (in_order_of (place ∷ places) (numbered_from 1 table))
    by true here looked passed =
        let equal : first ≡ place = eqb-true first place here in
        inl (
          ap (λ (n : ℕ). get_or (numbered_from 1 table) n (numbered (suc n) [])) (sym equal) ∙ at_place table first number fields rest is e,
          looked equal,
        )
    by false differs looked passed =
        let less : first < place = below first place low.0 differs in
        covers_more case (numbered number fields) (numbered_from (suc number) rest) (in_order_of (place ∷ places) (numbered_from 1 table))
        (out first fields (row_there table first fields rest e)
        (same first (omega arith) ∙ none_of first (place ∷ places) (less, each_weaker (λ (other : ℕ). place < other) (λ (other : ℕ). first < other) places (λ other more. omega (arith, less, more)) parts.0)))
        (passed less)

-- the rows at the places that matter are looked at
pub covers_places : (case : Case) (table : List Fields) (places : List ℕ) → AreAllThatMatter case table places → Covers case (numbered_from 1 table) (in_order_of places (numbered_from 1 table))
covers_places case table places matter =
    covers_rest case table places places 0 1 table refl refl matter.rising (all_low places) (recursion_from_All (λ (place : ℕ). place < length table) places matter.within) (λ place low. refl) matter.others
  where
    all_low : (l : List ℕ) → AllByRecursion (λ (place : ℕ). 0 ≤ place) l
    all_low [] = tt
    all_low (x ∷ xs) = (omega arith, all_low xs)

-- where no row is looked at, all are left out
pub covers_where_none : (case : Case) (table : List Fields) (looked : Looked) → LeavesOut case table looked → LooksAtNone looked → Covers case (numbered_from 1 table) []
covers_where_none case table ways.All leaves none = absurd none
covers_where_none case table ways.Nothing leaves none = covers_none case table leaves
covers_where_none case table (ways.At places) leaves none =
    subst (λ (some : List ℕ). Covers case (numbered_from 1 table) (in_order_of some (numbered_from 1 table))) none (covers_places case table places.now leaves)

pub places_within : (case : Case) (table : List Fields) (places : List ℕ) → AreAllThatMatter case table places → All (λ (place : ℕ). place < length table) places
places_within case table places matter = matter.within

-- what holds of places holds of those behind the first
pub places_behind : (table : List Fields) (all places : List ℕ) (place : ℕ) → all ≡ place ∷ places → All (λ (at : ℕ). at < length table) all → All (λ (at : ℕ). at < length table) places
places_behind table all places place e each =
    let split = recursion_from_All (λ (at : ℕ). at < length table) (place ∷ places) (subst (All (λ (at : ℕ). at < length table)) e each) in
    All-from_recursion (λ (at : ℕ). at < length table) places split.1

-- the row at the first place, and those at the others
pub rows_at : (table : List Fields) (all places : List ℕ) (place : ℕ) (default : Fields) → all ≡ place ∷ places → All (λ (at : ℕ). at < length table) all → in_order_of all (numbered_from 1 table) ≡ numbered (place + 1) (get_or table place default) ∷ in_order_of places (numbered_from 1 table)
rows_at table all places place default e each =
    let split = recursion_from_All (λ (at : ℕ). at < length table) (place ∷ places) (subst (All (λ (at : ℕ). at < length table)) e each) in
    let number : 1 + place ≡ place + 1 = omega arith in
    let first : get_or (numbered_from 1 table) place (numbered (suc place) []) ≡ numbered (place + 1) (get_or table place default) = numbered_at 1 table place (numbered (suc place) []) default split.0 ∙ ap (λ (n : ℕ). numbered n (get_or table place default)) number in
    ap (λ (at : List ℕ). in_order_of at (numbered_from 1 table)) e ∙ ap (λ (one : Numbered). one ∷ in_order_of places (numbered_from 1 table)) first

-- rows that are looked at have numbers from that of the first row on
covered_from : (case : Case) (number : ℕ) (table : List Fields) (some : List Numbered) → Covers case (numbered_from number table) some → AllByRecursion (λ (one : Numbered). number ≤ one.number) some
covered_from case number [] [] covers = tt
covered_from case number [] (one ∷ some) covers = absurd covers
covered_from case number (fields ∷ table) [] covers = tt
covered_from case number (fields ∷ table) (one ∷ some) (inl (same, covers)) = (
  omega (arith, ap (λ (r : Numbered). r.number) same),
  each_weaker (λ (r : Numbered). suc number ≤ r.number) (λ (r : Numbered). number ≤ r.number) some (λ r more. omega (arith, more)) (covered_from case (suc number) table some covers),
)
covered_from case number (fields ∷ table) (one ∷ some) (inr (out, covers)) =
    each_weaker (λ (r : Numbered). suc number ≤ r.number) (λ (r : Numbered). number ≤ r.number) (one ∷ some) (λ r more. omega (arith, more)) (covered_from case (suc number) table (one ∷ some) covers)

-- the rows before one of them have lower numbers
covered_before : (case : Case) (number : ℕ) (table : List Fields) (front : List Numbered) (row : Numbered) (back : List Numbered) → Covers case (numbered_from number table) (front ++ row ∷ back) → AllByRecursion (λ (one : Numbered). one.number < row.number) front
covered_before case number table [] row back covers = tt
covered_before case number [] (one ∷ front) row back covers = absurd covers
covered_before case number (fields ∷ table) (one ∷ front) row back (inl (same, covers)) =
    let later : suc number ≤ row.number = each_middle (λ (r : Numbered). suc number ≤ r.number) front row back (covered_from case (suc number) table (front ++ row ∷ back) covers) in
    (omega (arith, ap (λ (r : Numbered). r.number) same, later), covered_before case (suc number) table front row back covers)
covered_before case number (fields ∷ table) (one ∷ front) row back (inr (out, covers)) = covered_before case (suc number) table (one ∷ front) row back covers

pub numbers_before : (case : Case) (table : List Fields) (some front : List Numbered) (row : Numbered) (back : List Numbered) → Covers case (numbered_from 1 table) some → some ≡ front ++ row ∷ back → AllByRecursion (λ (one : Numbered). one.number < row.number) front
numbers_before case table some front row back covers e = covered_before case 1 table front row back (subst (Covers case (numbered_from 1 table)) e covers)

-- what holds of each row that is looked at, and of each that is left out, holds of all
pub covered_each : (case : Case) (Holds : Numbered → Type 0) → ((row : Numbered) → IsLeftOut case row.fields → Holds row) → (all some : List Numbered) → Covers case all some → AllByRecursion Holds some → AllByRecursion Holds all
covered_each case Holds out [] [] covers each = tt
covered_each case Holds out [] (one ∷ some) covers each = absurd covers
covered_each case Holds out (row ∷ all) [] (left, covers) each = (out row left, covered_each case Holds out all [] covers tt)
covered_each case Holds out (row ∷ all) (one ∷ some) (inl (same, covers)) each = (subst Holds same each.0, covered_each case Holds out all some covers each.1)
covered_each case Holds out (row ∷ all) (one ∷ some) (inr (left, covers)) each = (out row left, covered_each case Holds out all (one ∷ some) covers each)

-- a row that is looked at is one of all
pub covered_stands : (case : Case) (all some : List Numbered) (row : Numbered) → Covers case all some → Contains some row → Contains all row
covered_stands case [] [] row covers stands = stands
covered_stands case [] (one ∷ some) row covers stands = absurd covers
covered_stands case (first ∷ all) [] row (left, covers) stands = stands_behind first all row (covered_stands case all [] row covers stands)
covered_stands case (first ∷ all) (one ∷ some) row (inl (same, covers)) stands = by (stands_cases one some row stands) (covered_stands case all some row covers)
  where
    by : (one ≡ row) ⊎ Contains some row → (Contains some row → Contains all row) → Contains (first ∷ all) row
    by (inl here) later = subst (Contains (first ∷ all)) (sym same ∙ here) (stands_here first all)
    by (inr behind) later = stands_behind first all row (later behind)
covered_stands case (first ∷ all) (one ∷ some) row (inr (left, covers)) stands = stands_behind first all row (covered_stands case all (one ∷ some) row covers stands)

-- outcomes among which each test that no row without a match passes finds the same
abbrev AreAlike : List Taken → List Taken → Type 0
AreAlike whole outcomes = (test : Taken → Bool) → ((row : Option ℕ) → test (row, Unmatched) ≡ false) → find test whole ≡ find test outcomes

-- outcomes of all rows that are alike to those of the rows looked at
abbrev HasAlike : Case → Option Refusal → List Numbered → List Taken → Type 0
HasAlike case refused all outcomes = (whole : List Taken) × AllZip (RowHasOutcome case refused) all whole × AreAlike whole outcomes

-- a row that is left out comes to no match
out_is_unmatched : (case : Case) (refused : Option Refusal) (row : Numbered) → IsLeftOut case row.fields → RowHasOutcome case refused row (Some row.number, Unmatched)
out_is_unmatched case refused row out = (refl, (Ok false, out (refused_at refused (Some row.number)), refl))

alike_behind : (case : Case) (refused : Option Refusal) (row : Numbered) (all : List Numbered) (outcomes : List Taken) → IsLeftOut case row.fields → HasAlike case refused all outcomes → HasAlike case refused (row ∷ all) outcomes
alike_behind case refused row all outcomes out (whole, are, alike) = ((Some row.number, Unmatched) ∷ whole, (out_is_unmatched case refused row out, are), λ test passes_none. same test (passes_none (Some row.number)) (alike test passes_none))
  where
    same : (test : Taken → Bool) → test (Some row.number, Unmatched) ≡ false → find test whole ≡ find test outcomes → find test ((Some row.number, Unmatched) ∷ whole) ≡ find test outcomes
    same test not_it rest = rw not_it rest

alike_with : (case : Case) (refused : Option Refusal) (row : Numbered) (all : List Numbered) (taken : Taken) (outcomes : List Taken) → RowHasOutcome case refused row taken → HasAlike case refused all outcomes → HasAlike case refused (row ∷ all) (taken ∷ outcomes)
alike_with case refused row all taken outcomes is (whole, are, alike) = (taken ∷ whole, (is, are), λ test passes_none. ap (λ (found : Option Taken). cond (test taken) (Some taken) found) (alike test passes_none))

covered_outcomes : (case : Case) (refused : Option Refusal) (all some : List Numbered) (outcomes : List Taken) → Covers case all some → AllZip (RowHasOutcome case refused) some outcomes → HasAlike case refused all outcomes
covered_outcomes case refused [] [] outcomes covers are = (outcomes, are, λ test passes_none. refl)
covered_outcomes case refused [] (one ∷ some) outcomes covers are = absurd covers
covered_outcomes case refused (row ∷ all) [] outcomes (out, covers) are = alike_behind case refused row all outcomes out (covered_outcomes case refused all [] outcomes covers are)
covered_outcomes case refused (row ∷ all) (one ∷ some) [] covers are = absurd are
covered_outcomes case refused (row ∷ all) (one ∷ some) (taken ∷ outcomes) (inl (same, covers)) are =
    alike_with case refused row all taken outcomes (subst (λ (r : Numbered). RowHasOutcome case refused r taken) same are.0) (covered_outcomes case refused all some outcomes covers are.1)
covered_outcomes case refused (row ∷ all) (one ∷ some) (taken ∷ outcomes) (inr (out, covers)) are = alike_behind case refused row all (taken ∷ outcomes) out (covered_outcomes case refused all (one ∷ some) (taken ∷ outcomes) covers are)

unsettled_alike : (e : Effect) (whole outcomes : List Taken) → AreAlike whole outcomes → unsettled e whole ≡ unsettled e outcomes
unsettled_alike effect.AllowOverride whole outcomes alike = refl
unsettled_alike effect.DenyOverride whole outcomes alike = refl
unsettled_alike effect.AllowAndDeny whole outcomes alike = ap allow_by (alike allows (λ row. refl))
unsettled_alike effect.Priority whole outcomes alike = refl
unsettled_alike effect.SubjectPriority whole outcomes alike = refl

-- outcomes that are alike have one verdict
alike_verdict : (e : Effect) (whole outcomes : List Taken) → AreAlike whole outcomes → verdict e whole ≡ verdict e outcomes
alike_verdict e whole outcomes alike = ap (verdict_at e whole) (alike (ends e) (λ row. refl)) ∙ by (find (ends e) outcomes)
  where
    by : (found : Option Taken) → verdict_at e whole found ≡ verdict_at e outcomes found
    by (Some taken) = refl
    by None = unsettled_alike e whole outcomes alike

-- what is judged on the rows that are looked at is judged on all
pub judged_over_all : (case : Case) (Refused : Option (List ℕ) → Type 0) (all some : List Numbered) (v : Verdict) → Covers case all some → IsJudgedOn case (λ refused outcomes. AllZip (RowHasOutcome case refused) some outcomes) Refused v → IsJudgedOn case (λ refused outcomes. AllZip (RowHasOutcome case refused) all outcomes) Refused v
judged_over_all case Refused all some v covers (inl (none, (outcomes, are, is))) =
    let found = covered_outcomes case None all some outcomes covers are in
    inl (none, (found.0, found.1, is ∙ sym (alike_verdict case.model.effect found.0 outcomes found.2)))
judged_over_all case Refused all some v covers (inr (refusal, bad, fault, (outcomes, are, is))) =
    let found = covered_outcomes case (Some refusal) all some outcomes covers are in
    inr (refusal, bad, fault, (found.0, found.1, is ∙ sym (alike_verdict case.model.effect found.0 outcomes found.2)))
