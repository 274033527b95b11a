-- The roles that a name has by links, in a graph whose distances are kept.
use Rattle.std.proofs.Common.{◌≡◌, ◌≢◌, ◌⊎◌, inl, inr, ◌<◌, ◌≤◌, ◌+◌, ◌-◌, ℕ, suc, Bool, true, false, List, [], ◌∷◌, ◌++◌, None, length, get_or, sym, ap, subst, ◌∙◌, arith}
use Rattle.std.specs.Prelude.{◌↔◌}
use Rattle.std.specs.List.{Contains, IsDistinct}
use Rattle.std.specs.List.Sorted.{IsPermutation, IsSortedBy}
use Rattle.std.specs.Str.{bytes_eq}
use Rattle.std.proofs.lemmas.Bool.{cases_Bool, cases_eq, false≢true}
use Rattle.std.proofs.lemmas.List.Elements.{Contains-get_or, Contains-append_left, Contains-push, Contains-push_cases}
use Rattle.std.proofs.lemmas.List.Sorted.{Contains-permutation, IsPermutation-sym}
use Rattle.std.proofs.lemmas.Map.Keys.{IsDistinct-IsPermutation}
use Rattle.dist_rows.specs.Squares.{cell_of}
use Rattle.role_meaning.specs.Implied.{AreImplied}
use Rattle.role_meaning.specs.Links.{Reaches}
use Rattle.role_meaning.proofs.CallerLemmas.{far_tells, reaches_itself, stands_cases, stands_nowhere}
use Rattle.role_graph.specs.Graph.{shape_of}
use Rattle.role_graph.specs.Groups.{rows_of}
use Rattle.role_graph.specs.Helps.Distances.{ArePicked, AreWithin, IsPicked, ReachesBy, ReachesByGroup, ReachesBySome}
use Rattle.role_graph.specs.Helps.Names.{is_before}
use Rattle.role_graph.specs.Helps.Squares.{AreNodes, IsExact, IsMarked, name_at}
use Rattle.role_graph.specs.Helps.Walks.{FitsAt, Linked, no_group}
use Rattle.role_graph.proofs.BridgeLemmas.{node_of, one_node}
use Rattle.role_graph.proofs.GatherLemmas.{distinct_both, distinct_none, distinct_one, flips, implied_from, role_reached, strictly}
use Rattle.role_graph.proofs.NameLemmas.{AreNamed, IsLevel, ReachesIn, named_level, named_none}
use Rattle.role_graph.proofs.Nearest.{by_groups, from_groups, group_all, group_any, group_cases, group_more}

-- ---- marks

-- what is marked was marked before, or is of these
abbrev pub MarksAlso : (ℕ → Type 0) → List Bool → List Bool → ℕ → Type 0
MarksAlso Holds old new a = IsMarked new a ↔ (IsMarked old a ⊎ Holds a)

pub also_both : (First Second Both : ℕ → Type 0) (old mid new : List Bool) (a : ℕ) → (First a ⊎ Second a → Both a) → (Both a → First a ⊎ Second a) → MarksAlso First old mid a → MarksAlso Second mid new a → MarksAlso Both old new a
also_both First Second Both old mid new a there back first second = (λ marked. by (second.0 marked), λ which. from which)
  where
    early : IsMarked old a ⊎ First a → IsMarked old a ⊎ Both a
    early (inl before) = inl before
    early (inr one) = inr (there (inl one))

    by : IsMarked mid a ⊎ Second a → IsMarked old a ⊎ Both a
    by (inl marked) = early (first.0 marked)
    by (inr two) = inr (there (inr two))

    late : First a ⊎ Second a → IsMarked new a
    late (inl one) = second.1 (inl (first.1 (inr one)))
    late (inr two) = second.1 (inr two)

    from : IsMarked old a ⊎ Both a → IsMarked new a
    from (inl before) = second.1 (inl (first.1 (inl before)))
    from (inr both) = late (back both)

pub also_none : (Holds : ℕ → Type 0) (marks : List Bool) (a : ℕ) → ¬ Holds a → MarksAlso Holds marks marks a
also_none Holds marks a none = (λ marked. inl marked, λ which. by which)
  where
    by : IsMarked marks a ⊎ Holds a → IsMarked marks a
    by (inl marked) = marked
    by (inr holds) = absurd (none holds)

pub also_alike : (Holds Other : ℕ → Type 0) (old new : List Bool) (a : ℕ) → (Holds a → Other a) → (Other a → Holds a) → MarksAlso Holds old new a → MarksAlso Other old new a
also_alike Holds Other old new a there back also = (λ marked. one (also.0 marked), λ which. also.1 (two which))
  where
    one : IsMarked old a ⊎ Holds a → IsMarked old a ⊎ Other a
    one (inl marked) = inl marked
    one (inr holds) = inr (there holds)

    two : IsMarked old a ⊎ Other a → IsMarked old a ⊎ Holds a
    two (inl marked) = inl marked
    two (inr other) = inr (back other)

-- ---- what is within

-- the nodes that a role reaches
pub role_within : (linked : Linked) (names : List (List ℕ)) (cells : List (List ℕ)) (role : List ℕ) (node most : ℕ) (old new : List Bool) (a : ℕ) → IsExact linked names cells → most ≤ 254 → node < length names → name_at names node ≡ role → a < length names → MarksAlso (λ b. cell_of cells node b ≤ most) old new a → MarksAlso (λ b. ReachesIn linked most role (name_at names b)) old new a
role_within linked names cells role node most old new a exact low there is within also =
    also_alike (λ b. cell_of cells node b ≤ most) (λ b. ReachesIn linked most role (name_at names b)) old new a
    (λ near. subst (λ (name : List ℕ). ReachesIn linked most name (name_at names a)) is (tells.1 near)) (λ reaches. tells.0 (subst (λ (name : List ℕ). ReachesIn linked most name (name_at names a)) (sym is) reaches)) also
  where
    tells : ReachesIn linked most (name_at names node) (name_at names a) ↔ (cell_of cells node a ≤ most)
    tells = far_tells (shape_of linked.names) (rows_of linked.groups) None (name_at names node) (name_at names a) (cell_of cells node a) most low (exact.far node a there within)

-- one role more
pub some_within : (linked : Linked) (names roles : List (List ℕ)) (role : List ℕ) (links : ℕ) (old mid new : List Bool) (a : ℕ) → MarksAlso (λ b. ReachesBySome linked roles (name_at names b) links) old mid a → MarksAlso (λ b. ReachesBy linked role (name_at names b) links) mid new a → MarksAlso (λ b. ReachesBySome linked (roles ++ role ∷ []) (name_at names b) links) old new a
some_within linked names roles role links old mid new a =
    also_both (λ b. ReachesBySome linked roles (name_at names b) links) (λ b. ReachesBy linked role (name_at names b) links) (λ b. ReachesBySome linked (roles ++ role ∷ []) (name_at names b) links) old mid new a there back
  where
    there : ReachesBySome linked roles (name_at names a) links ⊎ ReachesBy linked role (name_at names a) links → ReachesBySome linked (roles ++ role ∷ []) (name_at names a) links
    there (inl some) = record { role = some.role; stands = Contains-append_left roles (role ∷ []) some.role some.stands; reaches = some.reaches }
    there (inr reaches) = record { role = role; stands = Contains-push roles role; reaches = reaches }

    back : ReachesBySome linked (roles ++ role ∷ []) (name_at names a) links → ReachesBySome linked roles (name_at names a) links ⊎ ReachesBy linked role (name_at names a) links
    back some = by (Contains-push_cases roles role some.role some.stands)
      where
        by : Contains roles some.role ⊎ (role ≡ some.role) → ReachesBySome linked roles (name_at names a) links ⊎ ReachesBy linked role (name_at names a) links
        by (inl stands) = inl (record { role = some.role; stands = stands; reaches = some.reaches })
        by (inr same) = inr (subst (λ (r : List ℕ). ReachesBy linked r (name_at names a) links) (sym same) some.reaches)

pub some_none : (linked : Linked) (names : List (List ℕ)) (links : ℕ) (marks : List Bool) (a : ℕ) → MarksAlso (λ b. ReachesBySome linked [] (name_at names b) links) marks marks a
some_none linked names links marks a = also_none (λ b. ReachesBySome linked [] (name_at names b) links) marks a (λ some. stands_nowhere some.role some.stands)

-- one group more
pub group_within : (linked : Linked) (names : List (List ℕ)) (x : List ℕ) (place at : ℕ) (roles : List (List ℕ)) (links : ℕ) (old mid new : List Bool) (a : ℕ) → roles ≡ (get_or linked.groups at no_group).roles → place ≤ at → FitsAt linked x at → ((other : ℕ) → place ≤ other → other < at → FitsAt linked x other → ⊥)
    → MarksAlso (λ b. ReachesByGroup linked x (name_at names b) place links) old mid a → MarksAlso (λ b. ReachesBySome linked roles (name_at names b) links) mid new a → MarksAlso (λ b. ReachesByGroup linked x (name_at names b) (at + 1) links) old new a
group_within linked names x place at roles links old mid new a is past fits none =
    also_both (λ b. ReachesByGroup linked x (name_at names b) place links) (λ b. ReachesBySome linked roles (name_at names b) links) (λ b. ReachesByGroup linked x (name_at names b) (at + 1) links) old mid new a
    (group_more linked x (name_at names a) place at roles links is past fits) (group_cases linked x (name_at names a) place at roles links is none)

pub group_none : (linked : Linked) (names : List (List ℕ)) (x : List ℕ) (links : ℕ) (marks : List Bool) (a : ℕ) → MarksAlso (λ b. ReachesByGroup linked x (name_at names b) 0 links) marks marks a
group_none linked names x links marks a = also_none (λ b. ReachesByGroup linked x (name_at names b) 0 links) marks a (λ by. absurd (omega (arith, by.before)))

pub groups_within : (linked : Linked) (names : List (List ℕ)) (x : List ℕ) (place links : ℕ) (old new : List Bool) (a : ℕ) → ((other : ℕ) → place ≤ other → FitsAt linked x other → ⊥) → MarksAlso (λ b. ReachesByGroup linked x (name_at names b) place links) old new a → MarksAlso (λ b. ReachesByGroup linked x (name_at names b) (length linked.groups) links) old new a
groups_within linked names x place links old new a none =
    also_alike (λ b. ReachesByGroup linked x (name_at names b) place links) (λ b. ReachesByGroup linked x (name_at names b) (length linked.groups) links) old new a
    (group_any linked x (name_at names a) place links) (group_all linked x (name_at names a) place links none)

-- ---- all that is within

drop_old : (Holds : ℕ → Type 0) (old new : List Bool) (a : ℕ) → ¬ IsMarked old a → MarksAlso Holds old new a → IsMarked new a ↔ Holds a
drop_old Holds old new a none also = (λ marked. by (also.0 marked), λ holds. also.1 (inr holds))
  where
    by : IsMarked old a ⊎ Holds a → Holds a
    by (inl before) = absurd (none before)
    by (inr holds) = holds

pub within_role : (linked : Linked) (names : List (List ℕ)) (x : List ℕ) (most : ℕ) (old new : List Bool) → ((a : ℕ) → ¬ IsMarked old a) → ((a : ℕ) → a < length names → MarksAlso (λ b. ReachesIn linked most x (name_at names b)) old new a) → AreWithin linked names x most new
within_role linked names x most old new none also = record { each = λ a within. drop_old (λ b. ReachesIn linked most x (name_at names b)) old new a (none a) (also a within) }

-- a name that is no role is none of those that it reaches
no_role : (names : List (List ℕ)) (x : List ℕ) (a : ℕ) → (Contains names x → ⊥) → a < length names → x ≡ name_at names a → ⊥
no_role names x a none within same = none (subst (Contains names) (sym same) (Contains-get_or names a [] within))

pub within_none : (linked : Linked) (names : List (List ℕ)) (x : List ℕ) (most : ℕ) (marks : List Bool) → most ≡ 0 → (Contains names x → ⊥) → ((a : ℕ) → ¬ IsMarked marks a) → AreWithin linked names x most marks
unfolding Reaches
within_none linked names x most marks is none unmarked =
    subst (λ (k : ℕ). AreWithin linked names x k marks) (sym is) (record { each = λ a within. (λ marked. absurd (unmarked a marked), λ same. absurd (no_role names x a none within same)) })

pub within_rows : (linked : Linked) (names : List (List ℕ)) (x : List ℕ) (most : ℕ) (old new : List Bool) → 0 < most → (Contains names x → ⊥) → ((a : ℕ) → ¬ IsMarked old a) → ((a : ℕ) → a < length names → MarksAlso (λ b. ReachesByGroup linked x (name_at names b) (length linked.groups) (suc (most - 1))) old new a) → AreWithin linked names x most new
within_rows linked names x most old new some none unmarked also =
    subst (λ (k : ℕ). AreWithin linked names x k new) (let e : suc (most - 1) ≡ most = omega arith in e) (record {
      each = λ a within.
          drop_old (λ b. ReachesIn linked (suc (most - 1)) x (name_at names b)) old new a (unmarked a)
          (also_alike (λ b. ReachesByGroup linked x (name_at names b) (length linked.groups) (suc (most - 1))) (λ b. ReachesIn linked (suc (most - 1)) x (name_at names b)) old new a
          (from_groups linked x (name_at names a) (length linked.groups) (suc (most - 1))) (by_groups linked x (name_at names a) (suc (most - 1)) (no_role names x a none within)) (also a within));
    })

-- ---- names of nodes

pub picked_none : (names : List (List ℕ)) (reached seen : List Bool) (fresh : List (List ℕ)) → fresh ≡ [] → ArePicked names reached seen 0 fresh
picked_none names reached seen fresh empty =
    subst (ArePicked names reached seen 0) (sym empty) (record {
      each = λ y. (λ nowhere. absurd (stands_nowhere y nowhere), λ picked. absurd (omega (arith, picked.before)));
      once = distinct_none;
    })

pub picked_skips : (names : List (List ℕ)) (reached seen : List Bool) (upto : ℕ) (fresh : List (List ℕ)) → (IsMarked reached upto → (¬ IsMarked seen upto) → ⊥) → ArePicked names reached seen upto fresh → ArePicked names reached seen (upto + 1) fresh
picked_skips names reached seen upto fresh none are = record {
  each = λ y. (λ stands. later y ((are.each y).0 stands), λ picked. (are.each y).1 (earlier y picked (cases_eq picked.node upto)));
  once = are.once;
}
  where
    later : (y : List ℕ) → IsPicked names reached seen upto y → IsPicked names reached seen (upto + 1) y
    later y picked = record { node = picked.node; before = omega (arith, picked.before); is = picked.is; now = picked.now; new = picked.new }

    earlier : (y : List ℕ) → (picked : IsPicked names reached seen (upto + 1) y) → (picked.node ≡ upto) ⊎ (¬ (picked.node ≡ upto)) → IsPicked names reached seen upto y
    earlier y picked (inl same) = absurd (none (subst (IsMarked reached) same picked.now) (λ marked. picked.new (subst (IsMarked seen) (sym same) marked)))
    earlier y picked (inr differ) = record { node = picked.node; before = omega (arith, picked.before, differ); is = picked.is; now = picked.now; new = picked.new }

pub picked_more : (names : List (List ℕ)) (reached seen : List Bool) (upto : ℕ) (fresh : List (List ℕ)) (name : List ℕ) → IsDistinct bytes_eq names → upto < length names → name ≡ name_at names upto → IsMarked reached upto → (¬ IsMarked seen upto) → ArePicked names reached seen upto fresh → ArePicked names reached seen (upto + 1) (fresh ++ name ∷ [])
picked_more names reached seen upto fresh name once within is now new are = record {
  each = λ y. (λ stands. there y (Contains-push_cases fresh name y stands), λ picked. back y picked (cases_eq picked.node upto));
  once = distinct_both fresh (name ∷ []) are.once (distinct_one name) (λ y early late. apart y ((are.each y).0 early) (stands_cases name [] y late));
}
  where
    there : (y : List ℕ) → Contains fresh y ⊎ (name ≡ y) → IsPicked names reached seen (upto + 1) y
    there y (inl stands) = let picked = (are.each y).0 stands in record { node = picked.node; before = omega (arith, picked.before); is = picked.is; now = picked.now; new = picked.new }
    there y (inr same) = record { node = upto; before = omega arith; is = sym is ∙ same; now = now; new = new }

    back : (y : List ℕ) → (picked : IsPicked names reached seen (upto + 1) y) → (picked.node ≡ upto) ⊎ (¬ (picked.node ≡ upto)) → Contains (fresh ++ name ∷ []) y
    back y picked (inl same) = subst (Contains (fresh ++ name ∷ [])) (is ∙ ap (name_at names) (sym same) ∙ picked.is) (Contains-push fresh name)
    back y picked (inr differ) =
        Contains-append_left fresh (name ∷ []) y ((are.each y).1 (record { node = picked.node; before = omega (arith, picked.before, differ); is = picked.is; now = picked.now; new = picked.new }))

    apart : (y : List ℕ) → IsPicked names reached seen upto y → (name ≡ y) ⊎ Contains [] y → ⊥
    apart y picked (inr nowhere) = stands_nowhere y nowhere
    apart y picked (inl same) =
        let e : picked.node ≡ upto = one_node names picked.node upto once (omega (arith, picked.before, within)) within (picked.is ∙ sym same ∙ is) in
        absurd (omega (arith, e, picked.before))

-- ---- level by level

-- the names by at most so many links, and what was reached by them
pub record IsListing (linked : Linked) (nodes : List (List ℕ)) (x : List ℕ) (level : ℕ) (seen : List Bool) (names : List (List ℕ)) : Type 0 where
  pub named : AreNamed linked x level names
  pub within : AreWithin linked nodes x level seen

pub listing_begins : (linked : Linked) (nodes : List (List ℕ)) (x : List ℕ) (seen : List Bool) (names : List (List ℕ)) → names ≡ [] → AreWithin linked nodes x 0 seen → IsListing linked nodes x 0 seen names
listing_begins linked nodes x seen names empty within = record { named = subst (AreNamed linked x 0) (sym empty) (named_none linked x); within = within }

pub listing_on : (linked : Linked) (nodes : List (List ℕ)) (x : List ℕ) (level : ℕ) (seen reached : List Bool) (names fresh sorted more : List (List ℕ)) → AreNodes linked nodes → level < 254 → IsListing linked nodes x level seen names → AreWithin linked nodes x (level + 1) reached → ArePicked nodes reached seen (length nodes) fresh → IsPermutation fresh sorted → IsSortedBy is_before sorted → more ≡ names ++ sorted → IsListing linked nodes x (level + 1) reached more
listing_on linked nodes x level seen reached names fresh sorted more roles low listing within picked moved order joined = record {
  named = subst (AreNamed linked x (level + 1)) (sym joined) (subst (λ (k : ℕ). AreNamed linked x k (names ++ sorted)) (let e : suc level ≡ level + 1 = omega arith in e) (named_level linked x level names sorted low listing.named is_level));
  within = within;
}
  where
    next : (a : ℕ) → a < length nodes → IsMarked reached a ↔ ReachesIn linked (suc level) x (name_at nodes a)
    next a inside = subst (λ (k : ℕ). IsMarked reached a ↔ ReachesIn linked k x (name_at nodes a)) (let e : level + 1 ≡ suc level = omega arith in e) (within.each a inside)

    pick : (y : List ℕ) → Contains sorted y → IsPicked nodes reached seen (length nodes) y
    pick y stands = (picked.each y).0 (Contains-permutation sorted fresh y (IsPermutation-sym fresh sorted moved) stands)

    unseen : (y : List ℕ) → IsPicked nodes reached seen (length nodes) y → ReachesIn linked level x y → ⊥
    unseen y one reaches = one.new ((listing.within.each one.node one.before).1 (subst (ReachesIn linked level x) (sym one.is) reaches))

    sound : (y : List ℕ) → IsPicked nodes reached seen (length nodes) y → (y ≢ x) × (¬ Contains names y) × ReachesIn linked (suc level) x y
    sound y one = (
      λ same. unseen y one (reaches_itself (shape_of linked.names) (rows_of linked.groups) None level x y (sym same)),
      λ stands. unseen y one (listing.named.sound y stands).1,
      subst (ReachesIn linked (suc level) x) one.is ((next one.node one.before).0 one.now),
    )

    whole_at : (y : List ℕ) (a : ℕ) → y ≢ x → a < length nodes → name_at nodes a ≡ y → ReachesIn linked (suc level) x y → (get_or seen a false ≡ true) ⊎ (get_or seen a false ≡ false) → Contains names y ⊎ Contains sorted y
    whole_at y a other inside is reaches (inl marked) = inl (listing.named.whole y other (subst (ReachesIn linked level x) is ((listing.within.each a inside).0 marked)))
    whole_at y a other inside is reaches (inr none) =
        inr (Contains-permutation fresh sorted y moved ((picked.each y).1 (record {
          node = a;
          before = inside;
          is = is;
          now = (next a inside).1 (subst (ReachesIn linked (suc level) x) (sym is) reaches);
          new = λ marked. false≢true (sym none ∙ marked);
        })))

    whole : (y : List ℕ) → y ≢ x → ReachesIn linked (suc level) x y → Contains names y ⊎ Contains sorted y
    whole y other reaches =
        let found = node_of nodes y (roles.all y (role_reached (shape_of linked.names) (rows_of linked.groups) (suc level) x y other reaches)) in
        whole_at y found.0 other found.1 found.2 reaches (cases_Bool (get_or seen found.0 false))

    is_level : IsLevel linked x level names sorted
    is_level = record {
      sound = λ y stands. sound y (pick y stands);
      whole = whole;
      order = strictly sorted order (IsDistinct-IsPermutation bytes_eq flips fresh sorted moved picked.once);
    }

pub listing_ends : (linked : Linked) (nodes : List (List ℕ)) (x : List ℕ) (level most : ℕ) (seen : List Bool) (names : List (List ℕ)) → level ≡ most → IsListing linked nodes x level seen names → AreImplied (shape_of linked.names) (rows_of linked.groups) most None x names
listing_ends linked nodes x level most seen names same listing = implied_from linked x most names (subst (λ (k : ℕ). AreNamed linked x k names) same listing.named)
