-- Lists in a strict order, the order by depth, and the order of implied roles.
use Rattle.std.proofs.Common.{◌≡◌, ◌⊎◌, inl, inr, ◌<◌, ◌≤◌, ◌+◌, ℕ, zero, suc, Bool, true, false, cond, List, [], ◌∷◌, Option, length, get_or, map, refl, sym, ap, subst, ◌∙◌, arith}
use Rattle.std.specs.Prelude.{All, AllPairs, nat_lt}
use Rattle.std.specs.Cmp.Lexicographic.{nat_list_cmp_total, slice_cmp}
use Rattle.std.specs.List.{Contains}
use Rattle.std.specs.Ordering.{nat_cmp, ordering_reverse}
use Rattle.std.specs.declared.cmp.Ordering.{Ordering}
use Rattle.std.specs.declared.cmp.Ordering.TheVariants.{Less, Greater}
use Rattle.std.proofs.lemmas.Bool.{cases_lt}
use Rattle.std.proofs.lemmas.List.Elements.{All-contains, All-map, Contains-get_or}
use Rattle.std.proofs.lemmas.List.Kept.{AllPairs-cons}
use Rattle.perm_base.specs.declared.shapes.RoleShape.{RoleShape}
use Rattle.policy_table.specs.Tables.{Fields}
use Rattle.role_meaning.specs.Depths.{IsOrderByDepth, Ranked, by_depth, put_by_depth, ranked_from}
use Rattle.role_meaning.specs.Distances.{farthest}
use Rattle.role_meaning.specs.Implied.{AreImplied, IsNearer}
use Rattle.role_meaning.specs.ImpliedUsers.{AreImpliedUsers}
use Rattle.role_meaning.specs.Links.{Reaches}
use Rattle.role_meaning.proofs.Reach.{least_unique}
use Rattle.role_meaning.proofs.Rows.{map_cases, map_stands, stands_behind, stands_cases, stands_here, stands_nowhere}
use borrow.Author.Tests.{ltb-false, ltb-true}

pub pairs_head : {X : Type 0} (R : X → X → Type 0) (x : X) (xs : List X) → AllPairs R (x ∷ xs) → All (R x) xs
pairs_head R x xs pairs = λ k d within. pairs 0 (suc k) d (omega arith) (omega arith)

pub pairs_tail : {X : Type 0} (R : X → X → Type 0) (x : X) (xs : List X) → AllPairs R (x ∷ xs) → AllPairs R xs
pairs_tail R x xs pairs = λ i j d less within. pairs (suc i) (suc j) d (omega arith) (omega arith)

pub all_standing : {X : Type 0} (P : X → Type 0) (xs : List X) → ((x : X) → Contains xs x → P x) → All P xs
all_standing P xs each = λ k d within. each (get_or xs k d) (Contains-get_or xs k d within)

-- two strictly ordered lists of the same elements are one
pub one_list : {X : Type 0} (R : X → X → Type 0) → ((a b : X) → R a b → R b a → ⊥) → (xs ys : List X) → AllPairs R xs → AllPairs R ys → ((x : X) → Contains xs x → Contains ys x) → ((x : X) → Contains ys x → Contains xs x) → xs ≡ ys
one_list R apart [] [] p q there back = refl
one_list R apart [] (y ∷ ys) p q there back = absurd (stands_nowhere y (back y (stands_here y ys)))
one_list R apart (x ∷ xs) [] p q there back = absurd (stands_nowhere x (there x (stands_here x xs)))
one_list {X} R apart (x ∷ xs) (y ∷ ys) p q there back =
    cons same (one_list R apart xs ys (pairs_tail R x xs p) (pairs_tail R y ys q)
    (λ z stands. rest x xs ys y same p z stands (stands_cases y ys z (there z (stands_behind x xs z stands))))
    (λ z stands. rest y ys xs x (sym same) q z stands (stands_cases x xs z (back z (stands_behind y ys z stands)))))
  where
    first : (y ≡ x) ⊎ Contains ys x → (x ≡ y) ⊎ Contains xs y → x ≡ y
    first (inl e) other = sym e
    first (inr behind) (inl e) = e
    first (inr behind) (inr other) = absurd (apart x y (All-contains (R x) xs y (pairs_head R x xs p) other) (All-contains (R y) ys x (pairs_head R y ys q) behind))

    same : x ≡ y
    same = first (stands_cases y ys x (there x (stands_here x xs))) (stands_cases x xs y (back y (stands_here y ys)))

    rest : (a : X) (ones others : List X) (b : X) → a ≡ b → AllPairs R (a ∷ ones) → (z : X) → Contains ones z → (b ≡ z) ⊎ Contains others z → Contains others z
    rest a ones others b e pairs z stands (inr found) = found
    rest a ones others b e pairs z stands (inl f) =
        let after : R a z = All-contains (R a) ones z (pairs_head R a ones pairs) stands in
        let self : R z z = subst (λ (w : X). R w z) (e ∙ f) after in
        absurd (apart z z self self)

    cons : x ≡ y → xs ≡ ys → x ∷ xs ≡ y ∷ ys
    cons e f = cc

not_both_before : (o r : Ordering) → o ≡ ordering_reverse r → o ≡ Less → r ≡ Less → ⊥
not_both_before o r turned one other = absurd (let e : Less ≡ Greater = sym one ∙ turned ∙ ap ordering_reverse other in cc)

nearer_apart : (shape : RoleShape) (rows : List Fields) (domain : Option (List ℕ)) (x y z : List ℕ) → IsNearer shape rows domain x y z → IsNearer shape rows domain x z y → ⊥
nearer_apart shape rows domain x y z one two =
    by one.before two.before
  where
    first : one.near ≡ two.far
    first = least_unique farthest (λ links. Reaches shape rows domain links x y) one.near two.far one.to_one two.to_other

    second : one.far ≡ two.near
    second = least_unique farthest (λ links. Reaches shape rows domain links x z) one.far two.near one.to_other two.to_one

    by : (one.near < one.far) ⊎ ((one.near ≡ one.far) × (slice_cmp nat_cmp y z ≡ Less)) → (two.near < two.far) ⊎ ((two.near ≡ two.far) × (slice_cmp nat_cmp z y ≡ Less)) → ⊥
    by (inl less) (inl more) = omega (arith, first, second)
    by (inl less) (inr (same, bytes)) = omega (arith, first, second)
    by (inr (same, bytes)) (inl more) = omega (arith, first, second)
    by (inr (same, bytes)) (inr (equal, others)) = not_both_before (slice_cmp nat_cmp y z) (slice_cmp nat_cmp z y) (nat_list_cmp_total.antisymm y z) bytes others

pub implied_unique : (shape : RoleShape) (rows : List Fields) (limit : ℕ) (domain : Option (List ℕ)) (x : List ℕ) (names others : List (List ℕ)) → AreImplied shape rows limit domain x names → AreImplied shape rows limit domain x others → names ≡ others
implied_unique shape rows limit domain x names others one two =
    one_list (IsNearer shape rows domain x) (nearer_apart shape rows domain x) names others one.order two.order
    (λ y stands. (two.members y).1 ((one.members y).0 stands)) (λ y stands. (one.members y).1 ((two.members y).0 stands))

pub users_unique : (shape : RoleShape) (rows : List Fields) (limit : ℕ) (domain : Option (List ℕ)) (x : List ℕ) (names others : List (List ℕ)) → AreImpliedUsers shape rows limit domain x names → AreImpliedUsers shape rows limit domain x others → names ≡ others
users_unique shape rows limit domain x names others one two =
    one_list (λ (y z : List ℕ). slice_cmp nat_cmp y z ≡ Less) (λ y z first second. not_both_before (slice_cmp nat_cmp y z) (slice_cmp nat_cmp z y) (nat_list_cmp_total.antisymm y z) first second) names others one.order two.order
    (λ y stands. (two.members y).1 ((one.members y).0 stands)) (λ y stands. (one.members y).1 ((two.members y).0 stands))

-- the deeper before the less deep, and of one depth the earlier before the later
abbrev Deeper : Ranked → Ranked → Type 0
Deeper one other = (other.depth < one.depth) ⊎ ((one.depth ≡ other.depth) × (one.place < other.place))

put_cases : (one r : Ranked) (others : List Ranked) → Contains (put_by_depth one others) r → (one ≡ r) ⊎ Contains others r
put_cases one r [] stands = stands_cases one [] r stands
put_cases one r (other ∷ others) stands = by (nat_lt one.depth other.depth) (put_by_depth one others) (put_cases one r others) stands
  where
    by : (less : Bool) (put : List Ranked) → (Contains put r → (one ≡ r) ⊎ Contains others r) → Contains (cond less (other ∷ put) (one ∷ other ∷ others)) r → (one ≡ r) ⊎ Contains (other ∷ others) r
    by true put more here = deeper (stands_cases other put r here)
      where
        moved : (one ≡ r) ⊎ Contains others r → (one ≡ r) ⊎ Contains (other ∷ others) r
        moved (inl e) = inl e
        moved (inr behind) = inr (stands_behind other others r behind)

        deeper : (other ≡ r) ⊎ Contains put r → (one ≡ r) ⊎ Contains (other ∷ others) r
        deeper (inl e) = inr (subst (Contains (other ∷ others)) e (stands_here other others))
        deeper (inr behind) = moved (more behind)
    by false put more here = stands_cases one (other ∷ others) r here

put_stands : (one r : Ranked) (others : List Ranked) → (one ≡ r) ⊎ Contains others r → Contains (put_by_depth one others) r
put_stands one r [] (inl e) = subst (Contains (one ∷ [])) e (stands_here one [])
put_stands one r [] (inr none) = absurd (stands_nowhere r none)
put_stands one r (other ∷ others) there = by (nat_lt one.depth other.depth) (put_by_depth one others) (put_stands one r others) there
  where
    by : (less : Bool) (put : List Ranked) → ((one ≡ r) ⊎ Contains others r → Contains put r) → (one ≡ r) ⊎ Contains (other ∷ others) r → Contains (cond less (other ∷ put) (one ∷ other ∷ others)) r
    by true put more (inl e) = stands_behind other put r (more (inl e))
    by true put more (inr behind) = in_rest (stands_cases other others r behind)
      where
        in_rest : (other ≡ r) ⊎ Contains others r → Contains (other ∷ put) r
        in_rest (inl e) = subst (Contains (other ∷ put)) e (stands_here other put)
        in_rest (inr found) = stands_behind other put r (more (inr found))
    by false put more (inl e) = subst (Contains (one ∷ other ∷ others)) e (stands_here one (other ∷ others))
    by false put more (inr behind) = stands_behind one (other ∷ others) r behind

deeper_from : (one other : Ranked) → other.depth ≤ one.depth → one.place < other.place → Deeper one other
deeper_from one other depth place = by (cases_lt other.depth one.depth)
  where
    by : (other.depth < one.depth) ⊎ (one.depth ≤ other.depth) → Deeper one other
    by (inl less) = inl less
    by (inr same) = inr (omega arith, place)

not_deeper : (other s : Ranked) → Deeper other s → s.depth ≤ other.depth
not_deeper other s (inl less) = omega arith
not_deeper other s (inr (same, place)) = omega arith

put_sorted : (one : Ranked) (others : List Ranked) → AllPairs Deeper others → ((r : Ranked) → Contains others r → one.place < r.place) → AllPairs Deeper (put_by_depth one others)
put_sorted one [] pairs earlier = AllPairs-cons Deeper one [] (all_standing (Deeper one) [] (λ r none. absurd (stands_nowhere r none))) pairs
put_sorted one (other ∷ others) pairs earlier =
    by (nat_lt one.depth other.depth) refl (put_sorted one others (pairs_tail Deeper other others pairs) (λ r stands. earlier r (stands_behind other others r stands)))
  where
    behind : one.depth < other.depth → (r : Ranked) → (one ≡ r) ⊎ Contains others r → Deeper other r
    behind less r (inl e) = subst (Deeper other) e (inl less)
    behind less r (inr stands) = All-contains (Deeper other) others r (pairs_head Deeper other others pairs) stands

    ahead : other.depth ≤ one.depth → (r : Ranked) → Contains (other ∷ others) r → (other ≡ r) ⊎ Contains others r → Deeper one r
    ahead more r stands (inl e) = deeper_from one r (subst (λ (s : Ranked). s.depth ≤ one.depth) e more) (earlier r stands)
    ahead more r stands (inr rest) =
        let under : r.depth ≤ other.depth = not_deeper other r (All-contains (Deeper other) others r (pairs_head Deeper other others pairs) rest) in
        deeper_from one r (omega arith) (earlier r stands)

    by : (less : Bool) → nat_lt one.depth other.depth ≡ less → AllPairs Deeper (put_by_depth one others) → AllPairs Deeper (cond less (other ∷ put_by_depth one others) (one ∷ other ∷ others))
    by true is rest =
        AllPairs-cons Deeper other (put_by_depth one others)
        (all_standing (Deeper other) (put_by_depth one others) (λ r stands. behind (ltb-true one.depth other.depth is) r (put_cases one r others stands))) rest
    by false is rest =
        AllPairs-cons Deeper one (other ∷ others)
        (all_standing (Deeper one) (other ∷ others) (λ r stands. ahead (ltb-false one.depth other.depth is) r stands (stands_cases other others r stands))) pairs

-- the place of a row at some place of the depths, and its depth
record IsRanked (place : ℕ) (depths : List ℕ) (r : Ranked) : Type 0 where
  at : ℕ
  within : at < length depths
  place_is : r.place ≡ place + at
  depth_is : r.depth ≡ get_or depths at 0

ranked_sound : (place : ℕ) (depths : List ℕ) (r : Ranked) → Contains (ranked_from place depths) r → IsRanked place depths r
ranked_sound place [] r none = absurd (stands_nowhere r none)
ranked_sound place (depth ∷ depths) r stands =
    by (put_cases (record { place = place; depth = depth }) r (ranked_from (suc place) depths) stands) (ranked_sound (suc place) depths r)
  where
    by : (record { place = place; depth = depth } ≡ r) ⊎ Contains (ranked_from (suc place) depths) r → (Contains (ranked_from (suc place) depths) r → IsRanked (suc place) depths r) → IsRanked place (depth ∷ depths) r
    by (inl e) more = record { at = 0; within = omega arith; place_is = sym (ap (λ (s : Ranked). s.place) e) ∙ omega arith; depth_is = sym (ap (λ (s : Ranked). s.depth) e) }
    by (inr behind) more =
        let found = more behind in
        record { at = suc found.at; within = omega arith; place_is = omega (arith, found.place_is); depth_is = found.depth_is }

ranked_there : (place : ℕ) (depths : List ℕ) (at : ℕ) → at < length depths → (r : Ranked) × Contains (ranked_from place depths) r × (r.place ≡ place + at)
ranked_there place [] at within = absurd (omega arith)
ranked_there place (depth ∷ depths) zero within =
    let one : Ranked = record { place = place; depth = depth } in
    (one, put_stands one one (ranked_from (suc place) depths) (inl refl), omega arith)
ranked_there place (depth ∷ depths) (suc at) within =
    let found = ranked_there (suc place) depths at (omega arith) in
    (found.0, put_stands (record { place = place; depth = depth }) found.0 (ranked_from (suc place) depths) (inr found.1), omega (arith, found.2))

ranked_sorted : (place : ℕ) (depths : List ℕ) → AllPairs Deeper (ranked_from place depths)
ranked_sorted place [] = λ i j d less within. absurd (omega arith)
ranked_sorted place (depth ∷ depths) =
    put_sorted (record { place = place; depth = depth }) (ranked_from (suc place) depths) (ranked_sorted (suc place) depths)
    (λ r stands. let found = ranked_sound (suc place) depths r stands in omega (arith, found.place_is))

pub pairs_map : {X Y : Type 0} (f : X → Y) (R : Y → Y → Type 0) (xs : List X) → AllPairs (λ a b. R (f a) (f b)) xs → AllPairs R (map f xs)
pairs_map f R [] pairs = λ i j d less within. absurd (omega arith)
pairs_map {X} f R (x ∷ xs) pairs =
    let S : X → X → Type 0 = λ a b. R (f a) (f b) in
    AllPairs-cons R (f x) (map f xs) (All-map (R (f x)) f xs (pairs_head S x xs pairs)) (pairs_map f R xs (pairs_tail S x xs pairs))

pub ordered_by_depth : (depths : List ℕ) → IsOrderByDepth depths (by_depth depths)
ordered_by_depth depths = record {
  each = λ place. (λ stands. there place (map_cases (λ (r : Ranked). r.place) (ranked_from 0 depths) place stands), back place);
  order = pairs_map (λ (r : Ranked). r.place) Before (ranked_from 0 depths) (λ i j d less within.
      tells (get_or (ranked_from 0 depths) i d) (get_or (ranked_from 0 depths) j d)
      (ranked_sound 0 depths (get_or (ranked_from 0 depths) i d) (Contains-get_or (ranked_from 0 depths) i d (omega arith)))
      (ranked_sound 0 depths (get_or (ranked_from 0 depths) j d) (Contains-get_or (ranked_from 0 depths) j d within))
      (ranked_sorted 0 depths i j d less within));
}
  where
    Before : ℕ → ℕ → Type 0
    Before one other = (get_or depths other 0 < get_or depths one 0) ⊎ ((get_or depths one 0 ≡ get_or depths other 0) × (one < other))

    there : (place : ℕ) → ((r : Ranked) × Contains (ranked_from 0 depths) r × (r.place ≡ place)) → place < length depths
    there place (r, stands, is) = let found = ranked_sound 0 depths r stands in omega (arith, found.place_is, found.within)

    back : (place : ℕ) → place < length depths → Contains (by_depth depths) place
    back place within =
        let found = ranked_there 0 depths place within in
        subst (Contains (by_depth depths)) (found.2 ∙ omega arith) (map_stands (λ (r : Ranked). r.place) (ranked_from 0 depths) found.0 found.1)

    depth_of : (r : Ranked) → IsRanked 0 depths r → r.depth ≡ get_or depths r.place 0
    depth_of r found = let same : found.at ≡ r.place = omega (arith, found.place_is) in found.depth_is ∙ ap (λ (at : ℕ). get_or depths at 0) same

    tells : (r s : Ranked) → IsRanked 0 depths r → IsRanked 0 depths s → Deeper r s → Before r.place s.place
    tells r s one two (inl less) = inl (subst (λ (d : ℕ). d < get_or depths r.place 0) (depth_of s two) (subst (λ (d : ℕ). s.depth < d) (depth_of r one) less))
    tells r s one two (inr (same, earlier)) = inr (sym (depth_of r one) ∙ same ∙ depth_of s two, earlier)
