-- Rows that are found by the names in them, each at its place.
use Rattle.std.proofs.Common.{◌≡◌, ◌≢◌, ◌⊎◌, inl, inr, ℕ, zero, suc, ◌+◌, ◌<◌, ◌≤◌, ◌||◌, Bool, true, false, cond, List, [], ◌∷◌, ◌++◌, append-nil, length, map, filter, get_or, position, slice_get, take, All, Option, Some, None, refl, sym, ap, subst, ◌∙◌, arith}
use Rattle.std.specs.Prelude.{AllPairs, IfSome, is_some, nat_eq}
use Rattle.std.specs.List.{Contains, IsDistinct, dedup, position_or_len}
use Rattle.std.specs.List.Sorted.{IsPermutation, IsSorted}
use Rattle.std.specs.Ordering.{nat_cmp}
use Rattle.std.specs.Str.{bytes_eq}
use Rattle.std.proofs.lemmas.Bool.{and_parts, cases_eq, cases_order}
use Rattle.std.proofs.lemmas.List.{get_or-map, length-map, take_all}
use Rattle.std.proofs.lemmas.List.Elements.{All-contains, All-nil, All-push, Contains-append_cases, Contains-append_left, Contains-append_right, Contains-get_or, Contains-push, Contains-push_cases}
use Rattle.std.proofs.lemmas.List.Filters.{All-dedup}
use Rattle.std.proofs.lemmas.List.Kept.{AllPairs-from_increasing, Contains-dedup_nat}
use Rattle.std.proofs.lemmas.List.Sorted.{All-permutation, Contains-permutation}
use Rattle.std.proofs.lemmas.Map.Keys.{IsStrictlyIncreasing-dedup}
use Rattle.std.proofs.lemmas.Map.Made.{AllPairs-from_IsDistinct}
use Rattle.std.proofs.lemmas.Option.{get_or_from_slice_get, slice_get-get_or, slice_get_within}
use Rattle.std.proofs.lemmas.Slice.Eq.{bytes_eq-Decides}
use Rattle.policy_table.specs.Limits.{different}
use Rattle.policy_table.specs.Tables.{Fields, same, stands}
use Rattle.policy_table.proofs.CallerLemmas.{HasSlot, found_first, found_slot, same-Decides}
use Rattle.policy_query.specs.Found.{FindAsked, rows_at}
use Rattle.policy_query.specs.Helps.Named.{ArePlaced, FindRows, place_list, rule_of_names}
use Rattle.policy_query.specs.Names.{is_asked, named_columns, names_beside}

-- ---- what stands in a list

here_first : {X : Type 0} (x : X) (xs : List X) → Contains (x ∷ xs) x
here_first x xs = Contains-append_left (x ∷ []) xs x (Contains-push [] x)

behind : {X : Type 0} (x : X) (xs : List X) (y : X) → Contains xs y → Contains (x ∷ xs) y
behind x xs y there = Contains-append_right (x ∷ []) xs y there

nowhere : {X : Type 0} (y : X) → Contains [] y → ⊥
nowhere y (at, within, same) = absurd (omega (arith, within))

front_cases : {X : Type 0} (x : X) (xs : List X) (y : X) → Contains (x ∷ xs) y → (x ≡ y) ⊎ Contains xs y
front_cases x xs y there = by (Contains-append_cases (x ∷ []) xs y there)
  where
    first : Contains [] y ⊎ (x ≡ y) → (x ≡ y) ⊎ Contains xs y
    first (inl none) = absurd (nowhere y none)
    first (inr equal) = inl equal

    by : Contains (x ∷ []) y ⊎ Contains xs y → (x ≡ y) ⊎ Contains xs y
    by (inl alone) = first (Contains-push_cases [] x y alone)
    by (inr later) = inr later

-- ---- rising places and a filter

-- the test picks from the rows at these places, counted from the first of a back of all rows, what it picks from that back
found_from : (test : Fields → Bool) (all rows : List Fields) (first : ℕ) (places : List ℕ) → ((k : ℕ) → k < length rows → get_or all (first + k) [] ≡ get_or rows k []) → AllPairs (λ (one other : ℕ). one < other) places
    → ((p : ℕ) → Contains places p → (first ≤ p) × (p < first + length rows)) → ((k : ℕ) → k < length rows → test (get_or rows k []) ≡ true → Contains places (first + k)) → filter test (rows_at all places) ≡ filter test rows
found_from test all [] first [] are rise bounds each = refl
found_from test all [] first (p ∷ ps) are rise bounds each = let low = bounds p (here_first p ps) in absurd (omega (arith, low.0, low.1))
found_from test all (r ∷ rs) first places are rise bounds each = by places rise bounds each (found_from test all rs (first + 1))
  where
    Rest : List ℕ → Type 0
    Rest ps = ((k : ℕ) → k < length rs → get_or all (first + 1 + k) [] ≡ get_or rs k []) → AllPairs (λ (one other : ℕ). one < other) ps → ((p : ℕ) → Contains ps p → (first + 1 ≤ p) × (p < first + 1 + length rs))
        → ((k : ℕ) → k < length rs → test (get_or rs k []) ≡ true → Contains ps (first + 1 + k)) → filter test (rows_at all ps) ≡ filter test rs

    later : (k : ℕ) → k < length rs → get_or all (first + 1 + k) [] ≡ get_or rs k []
    later k within = ap (λ (n : ℕ). get_or all n []) (let e : first + 1 + k ≡ first + suc k = omega arith in e) ∙ are (suc k) (omega (arith, within))

    here : get_or all first [] ≡ r
    here = ap (λ (n : ℕ). get_or all n []) (let e : first ≡ first + 0 = omega arith in e) ∙ are 0 (omega arith)

    -- where no place is that of the first row, the test fails there
    skip : (ps : List ℕ) → ((k : ℕ) → k < length (r ∷ rs) → test (get_or (r ∷ rs) k []) ≡ true → Contains ps (first + k)) → (Contains ps first → ⊥) → filter test (r ∷ rs) ≡ filter test rs
    skip ps every none = at (test r) refl
      where
        at : (b : Bool) → test r ≡ b → cond b (r ∷ filter test rs) (filter test rs) ≡ filter test rs
        at false is = refl
        at true is = absurd (none (subst (Contains ps) (let e : first + 0 ≡ first = omega arith in e) (every 0 (omega arith) is)))

    -- what stands among the places behind the first row
    next : (ps : List ℕ) → ((k : ℕ) → k < length (r ∷ rs) → test (get_or (r ∷ rs) k []) ≡ true → Contains ps (first + k)) → (k : ℕ) → k < length rs → test (get_or rs k []) ≡ true → Contains ps (first + 1 + k)
    next ps every k within passes = subst (Contains ps) (let e : first + suc k ≡ first + 1 + k = omega arith in e) (every (suc k) (omega (arith, within)) passes)

    by : (ps : List ℕ) → AllPairs (λ (one other : ℕ). one < other) ps → ((p : ℕ) → Contains ps p → (first ≤ p) × (p < first + length (r ∷ rs))) → ((k : ℕ) → k < length (r ∷ rs) → test (get_or (r ∷ rs) k []) ≡ true → Contains ps (first + k))
        → ((qs : List ℕ) → Rest qs) → filter test (rows_at all ps) ≡ filter test (r ∷ rs)
    by [] up low every rest = rest [] later up (λ p stands. absurd (nowhere p stands)) (next [] every) ∙ sym (skip [] every (λ stands. nowhere first stands))
    by (p ∷ ps) up low every rest = at (cases_eq p first)
      where
        above : (q : ℕ) → Contains ps q → p < q
        above q (k, within, is) = subst (λ (n : ℕ). p < n) is (up 0 (suc k) q (omega arith) (omega (arith, within)))

        tail : AllPairs (λ (one other : ℕ). one < other) ps
        tail = λ i j d less within. up (suc i) (suc j) d (omega (arith, less)) (omega (arith, within))

        bounds_behind : p ≡ first → (q : ℕ) → Contains ps q → (first + 1 ≤ q) × (q < first + 1 + length rs)
        bounds_behind same q stands = let limit = low q (behind p ps q stands) in (omega (arith, same, above q stands), omega (arith, limit.1))

        bounds_all : (p ≡ first → ⊥) → (q : ℕ) → Contains (p ∷ ps) q → (first + 1 ≤ q) × (q < first + 1 + length rs)
        bounds_all differ q stands = which (front_cases p ps q stands)
          where
            limit : (first ≤ q) × (q < first + length (r ∷ rs))
            limit = low q stands

            lowest : (first ≤ p) × (p < first + length (r ∷ rs))
            lowest = low p (here_first p ps)

            which : (p ≡ q) ⊎ Contains ps q → (first + 1 ≤ q) × (q < first + 1 + length rs)
            which (inl same) = (omega (arith, same, lowest.0, differ), omega (arith, limit.1))
            which (inr stands_behind) = (omega (arith, above q stands_behind, lowest.0), omega (arith, limit.1))

        every_behind : p ≡ first → (k : ℕ) → k < length rs → test (get_or rs k []) ≡ true → Contains ps (first + 1 + k)
        every_behind same k within passes = which (front_cases p ps (first + 1 + k) (next (p ∷ ps) every k within passes))
          where
            which : (p ≡ first + 1 + k) ⊎ Contains ps (first + 1 + k) → Contains ps (first + 1 + k)
            which (inl other) = absurd (omega (arith, same, other))
            which (inr stands) = stands

        none_here : (p ≡ first → ⊥) → Contains (p ∷ ps) first → ⊥
        none_here differ stands = which (front_cases p ps first stands)
          where
            which : (p ≡ first) ⊎ Contains ps first → ⊥
            which (inl same) = differ same
            which (inr stands_behind) = let lowest = low p (here_first p ps) in absurd (omega (arith, above first stands_behind, lowest.0))

        at : (p ≡ first) ⊎ (p ≡ first → ⊥) → filter test (rows_at all (p ∷ ps)) ≡ filter test (r ∷ rs)
        at (inl same) =
            ap (λ (x : Fields). filter test (x ∷ rows_at all ps)) (ap (λ (n : ℕ). get_or all n []) same ∙ here)
            ∙ ap (λ (l : List Fields). cond (test r) (r ∷ l) l) (rest ps later tail (bounds_behind same) (every_behind same))
        at (inr differ) = rest (p ∷ ps) later up (bounds_all differ) (next (p ∷ ps) every) ∙ sym (skip (p ∷ ps) every (none_here differ))

-- of the rows at such places the test picks what it picks of all
pub found_filter : (test : Fields → Bool) (rows : List Fields) (places : List ℕ) → FindRows test rows places → filter test (rows_at rows places) ≡ filter test rows
found_filter test rows places finds =
    found_from test rows rows 0 places (λ k within. ap (λ (n : ℕ). get_or rows n []) (let e : 0 + k ≡ k = omega arith in e)) finds.rising
    (λ p stands. (omega arith, omega (arith, All-contains (λ (at : ℕ). at < length rows) places p finds.within stands)))
    (λ k within passes. subst (Contains places) (let e : k ≡ 0 + k = omega arith in e) (finds.each k within passes))

-- so a question for names finds the same there
pub found_asked : (asked : ℕ) (name : List ℕ) (domain : Option (List ℕ)) (rows : List Fields) (places : List ℕ) → FindRows (is_asked asked name domain) rows places → FindAsked asked name domain rows places
found_asked asked name domain rows places finds = record { within = finds.within; same = found_filter (is_asked asked name domain) rows places finds }

-- and gathers the same at all places
pub names_told : (asked told : ℕ) (name : List ℕ) (domain : Option (List ℕ)) (rows : List Fields) (places : List ℕ) (index : ℕ) (names : List (List ℕ)) → names ≡ names_beside asked told name domain (take index (rows_at rows places)) → length places ≤ index
    → FindAsked asked name domain rows places → names ≡ names_beside asked told name domain rows
names_told asked told name domain rows places index names are past finds =
    are
    ∙ ap (names_beside asked told name domain) (take_all index (rows_at rows places) (omega (arith, past, length-map places (λ (at : ℕ). get_or rows at []))))
    ∙ ap (λ (l : List Fields). different (map (λ (rule : Fields). get_or rule told []) l)) finds.same

-- the row at one of the places
pub row_here : (rows : List Fields) (places : List ℕ) (index d : ℕ) (rule : Fields) → index < length places → slice_get rows (get_or places index d) ≡ Some rule → slice_get (rows_at rows places) index ≡ Some rule
row_here rows places index d rule within there =
    slice_get-get_or (rows_at rows places) index [] (omega (arith, within, length-map places (λ (at : ℕ). get_or rows at [])))
    ∙ ap (λ (row : Fields). Some row) (get_or-map (λ (at : ℕ). get_or rows at []) places index d [] within ∙ get_or_from_slice_get rows (get_or places index d) rule [] there)

-- it is as long as all rows are
pub row_long : (given : ℕ) (rows : List Fields) (place : ℕ) (rule : Fields) → slice_get rows place ≡ Some rule → All (λ (row : Fields). given < length row) rows → given < length rule
row_long given rows place rule there all =
    subst (λ (row : Fields). given < length row) (get_or_from_slice_get rows place rule [] there) (all place [] (slice_get_within rows place rule there))

-- and has a user and a role
pub has_role : (with_domain : Bool) (told long : ℕ) → told ≤ 1 → named_columns with_domain < long → told < long
has_role true told long low more = omega (arith, low, more)
has_role false told long low more = omega (arith, low, more)

-- ---- places that are put in order

pub ordered_rising : (sorted new : List ℕ) → IsSorted nat_cmp sorted → new ≡ dedup nat_eq sorted → AllPairs (λ (first second : ℕ). first < second) new
ordered_rising sorted new rises is = subst (AllPairs (λ (first second : ℕ). first < second)) (sym is) (AllPairs-from_increasing (dedup nat_eq sorted) (IsStrictlyIncreasing-dedup sorted rises))

pub ordered_within : (bound : ℕ) (old sorted new : List ℕ) → IsPermutation old sorted → new ≡ dedup nat_eq sorted → All (λ (at : ℕ). at < bound) old → All (λ (at : ℕ). at < bound) new
ordered_within bound old sorted new moved is all = subst (All (λ (at : ℕ). at < bound)) (sym is) (All-dedup nat_eq (λ (at : ℕ). at < bound) sorted (All-permutation (λ (at : ℕ). at < bound) old sorted moved all))

pub ordered_keeps : (old sorted new : List ℕ) (at : ℕ) → IsPermutation old sorted → new ≡ dedup nat_eq sorted → Contains old at → Contains new at
ordered_keeps old sorted new at moved is stands = subst (λ (l : List ℕ). Contains l at) (sym is) (Contains-dedup_nat sorted at (Contains-permutation old sorted at moved stands))

-- ---- rules that are made

-- what holds of a value where there is one
pub if_some : {X : Type 0} (made : Option X) (value : X) → made ≡ Some value → (P : X → Type 0) → IfSome made P → P value
if_some {X} made value is P told = subst (λ (o : Option X). IfSome o P) is told

-- a rule of these fields is that of the names
pub made_of : (made : Option Fields) (fields names : Fields) → fields ≡ names → IfSome made (λ (rule : Fields). rule ≡ fields) → IfSome made (λ (rule : Fields). rule ≡ names)
made_of None fields names same is = tt
made_of (Some rule) fields names same is = is ∙ same

-- ---- rules that are found

-- a rule stands at one place of distinct rules
one_place : (rows : List Fields) (one other : ℕ) → IsDistinct same rows → one < length rows → other < length rows → get_or rows one [] ≡ get_or rows other [] → one ≡ other
one_place rows one other once first second equal = by (cases_order one other)
  where
    pairs : AllPairs (λ (x y : Fields). x ≢ y) rows
    pairs = AllPairs-from_IsDistinct same-Decides rows once

    by : (one ≡ other) ⊎ ((one < other) ⊎ (other < one)) → one ≡ other
    by (inl e) = e
    by (inr (inl less)) = absurd (pairs one other [] less second equal)
    by (inr (inr more)) = absurd (pairs other one [] more first (sym equal))

-- it stands
standing : (rule : Fields) (rows : List Fields) (at : ℕ) → at < length rows → get_or rows at [] ≡ rule → stands rule rows ≡ true
standing rule [] at within is = absurd (omega (arith, within))
standing rule (r ∷ rs) zero within is = ap (λ (b : Bool). b || stands rule rs) ((same-Decides rule r).1 (sym is))
standing rule (r ∷ rs) (suc at) within is = either (same rule r) (standing rule rs at (omega (arith, within)) is)
  where
    either : (b : Bool) → stands rule rs ≡ true → (b || stands rule rs) ≡ true
    either true some = refl
    either false some = some

-- the place of a rule that stands is told
told_place : (rule : Fields) (rows : List Fields) (at : ℕ) → IsDistinct same rows → at < length rows → get_or rows at [] ≡ rule → position (same rule) rows ≡ Some at
told_place rule rows at once within is =
    let place : ℕ = position_or_len (same rule) rows in
    let first : position (same rule) rows ≡ Some place = found_first rule rows (standing rule rows at within is) in
    let has : HasSlot rule place rows = found_slot rule place rows first in
    first ∙ ap (λ (n : ℕ). Some n) (one_place rows place at once has.within within (has.is ∙ sym is))

pub placed_none : (user : List ℕ) (domain : Option (List ℕ)) (rows : List Fields) (places : List ℕ) → places ≡ [] → ArePlaced user domain [] rows places
placed_none user domain rows places none =
    subst (ArePlaced user domain [] rows) (sym none) (record { within = All-nil (λ (at : ℕ). at < length rows); each = λ role at stands within is. absurd (nowhere role stands) })

-- one role more
pub placed_more : (user : List ℕ) (domain : Option (List ℕ)) (roles : List (List ℕ)) (role : List ℕ) (rule : Fields) (rows : List Fields) (old new : List ℕ) → IsDistinct same rows → rule ≡ rule_of_names user role domain
    → new ≡ old ++ place_list (position (same rule) rows) → ArePlaced user domain roles rows old → ArePlaced user domain (roles ++ role ∷ []) rows new
placed_more user domain roles role rule rows old new once is pushed placed = by (position (same rule) rows) refl
  where
    earlier : (found : Option ℕ) (at : ℕ) → Contains old at → Contains (old ++ place_list found) at
    earlier found at stands = Contains-append_left old (place_list found) at stands

    within_by : (found : Option ℕ) → position (same rule) rows ≡ found → All (λ (at : ℕ). at < length rows) (old ++ place_list found)
    within_by None told = subst (All (λ (at : ℕ). at < length rows)) (sym (append-nil old)) placed.within
    within_by (Some at) told = All-push (λ (n : ℕ). n < length rows) old at placed.within (found_slot rule at rows told).within

    each_by : (found : Option ℕ) → position (same rule) rows ≡ found → (other : List ℕ) (at : ℕ) → Contains (roles ++ role ∷ []) other → at < length rows → get_or rows at [] ≡ rule_of_names user other domain → Contains (old ++ place_list found) at
    each_by found told other at stands within here = which (Contains-push_cases roles role other stands)
      where
        which : Contains roles other ⊎ (role ≡ other) → Contains (old ++ place_list found) at
        which (inl early) = earlier found at (placed.each other at early within here)
        which (inr equal) =
            let there : position (same rule) rows ≡ Some at = told_place rule rows at once within (here ∙ ap (λ (r : List ℕ). rule_of_names user r domain) (sym equal) ∙ sym is) in
            subst (λ (o : Option ℕ). Contains (old ++ place_list o) at) (sym there ∙ told) (Contains-push old at)

    by : (found : Option ℕ) → position (same rule) rows ≡ found → ArePlaced user domain (roles ++ role ∷ []) rows new
    by found told = subst (ArePlaced user domain (roles ++ role ∷ []) rows) (sym (pushed ∙ ap (λ (o : Option ℕ). old ++ place_list o) told)) (record { within = within_by found told; each = each_by found told })

-- a rule of the columns that are named is spelled by its names
spelled : (user : List ℕ) (domain : Option (List ℕ)) (row : Fields) → length row ≡ named_columns (is_some domain) + 1 → is_asked 0 user domain row ≡ true → row ≡ rule_of_names user (get_or row 1 []) domain
spelled user None [] long asked = absurd (omega (arith, long))
spelled user None (a ∷ []) long asked = absurd (omega (arith, long))
spelled user None (a ∷ b ∷ []) long asked = ap (λ (u : List ℕ). u ∷ b ∷ []) (sym ((bytes_eq-Decides user a).0 (and_parts (bytes_eq user a) true asked).0))
spelled user None (a ∷ b ∷ c ∷ rest) long asked = absurd (omega (arith, long))
spelled user (Some domain) [] long asked = absurd (omega (arith, long))
spelled user (Some domain) (a ∷ []) long asked = absurd (omega (arith, long))
spelled user (Some domain) (a ∷ b ∷ []) long asked = absurd (omega (arith, long))
spelled user (Some domain) (a ∷ b ∷ c ∷ []) long asked =
    let both = and_parts (bytes_eq user a) (bytes_eq domain c) asked in
    ap (λ (u : List ℕ). u ∷ b ∷ c ∷ []) (sym ((bytes_eq-Decides user a).0 both.0)) ∙ ap (λ (d : List ℕ). user ∷ b ∷ d ∷ []) (sym ((bytes_eq-Decides domain c).0 both.1))
spelled user (Some domain) (a ∷ b ∷ c ∷ d ∷ rest) long asked = absurd (omega (arith, long))

-- so all rows of the user are found where their roles are among those that are placed
pub all_found : (user : List ℕ) (domain : Option (List ℕ)) (among : List (List ℕ)) (rows : List Fields) (placed new : List ℕ) → All (λ (rule : Fields). length rule ≡ named_columns (is_some domain) + 1) rows
    → ((rule : Fields) → Contains rows rule → is_asked 0 user domain rule ≡ true → Contains among (get_or rule 1 [])) → ArePlaced user domain among rows placed → AllPairs (λ (first second : ℕ). first < second) new
    → ((bound : ℕ) → All (λ (at : ℕ). at < bound) placed → All (λ (at : ℕ). at < bound) new) → ((at : ℕ) → Contains placed at → Contains new at) → FindRows (is_asked 0 user domain) rows new
all_found user domain among rows placed new columns told are rising within keeps = record {
  rising = rising;
  within = within (length rows) are.within;
  each = λ at inside passes.
      (let row : Fields = get_or rows at [] in
      let there : Contains rows row = Contains-get_or rows at [] inside in
      keeps at (are.each (get_or row 1 []) at (told row there passes) inside (spelled user domain row (All-contains (λ (rule : Fields). length rule ≡ named_columns (is_some domain) + 1) rows row columns there) passes)));
}
