-- The roles that a walk names, level by level.
use Rattle.std.proofs.Common.{◌≡◌, ◌≢◌, ◌⊎◌, inl, inr, ◌<◌, ◌≤◌, ℕ, suc, true, false, List, [], ◌∷◌, ◌++◌, None, get_or, refl, sym, ap, subst, ◌∙◌, arith}
use Rattle.std.specs.Prelude.{AllPairs}
use Rattle.std.specs.Cmp.Lexicographic.{slice_cmp}
use Rattle.std.specs.List.{Contains}
use Rattle.std.specs.Ordering.{nat_cmp}
use Rattle.std.specs.Str.{bytes_eq}
use Rattle.std.specs.declared.cmp.Ordering.TheVariants.{Less}
use Rattle.std.proofs.lemmas.Bool.{cases_Bool, false≢true}
use Rattle.std.proofs.lemmas.List.Elements.{All-append, Contains-append_cases, Contains-append_left, Contains-append_right, Contains-get_or}
use Rattle.std.proofs.lemmas.List.Kept.{AllPairs-cons}
use Rattle.role_meaning.specs.Distances.{IsFar}
use Rattle.role_meaning.specs.Implied.{IsNearer}
use Rattle.role_meaning.specs.Links.{Reaches, SomeLink}
use Rattle.role_meaning.proofs.CallerLemmas.{all_standing, pairs_head, pairs_tail, reaches_last, reaches_more, stands_behind, stands_cases, stands_here, stands_nowhere}
use Rattle.role_graph.specs.Graph.{shape_of}
use Rattle.role_graph.specs.Groups.{rows_of}
use Rattle.role_graph.specs.Helps.Marks.{IsSet}
use Rattle.role_graph.specs.Helps.Walks.{AreReached, IsEntered, IsLink, IsRoleAt, Linked}
use Rattle.role_graph.proofs.PutLemmas.{same_text, text_itself}
use Rattle.role_graph.proofs.WalkLemmas.{group_link, level_cases, reached_on}

abbrev pub ReachesIn : Linked → ℕ → List ℕ → List ℕ → Type 0
ReachesIn linked links x y = Reaches (shape_of linked.names) (rows_of linked.groups) None links x y

abbrev pub FarIn : Linked → List ℕ → List ℕ → ℕ → Type 0
FarIn linked x y far = IsFar (shape_of linked.names) (rows_of linked.groups) None x y far

-- the names that are reached by at most so many links, in their order
pub record AreNamed (linked : Linked) (x : List ℕ) (level : ℕ) (names : List (List ℕ)) : Type 0 where
  pub sound : (y : List ℕ) → Contains names y → (y ≢ x) × ReachesIn linked level x y
  pub whole : (y : List ℕ) → y ≢ x → ReachesIn linked level x y → Contains names y
  pub near : (y : List ℕ) → Contains names y → (far : ℕ) × (far ≤ level) × FarIn linked x y far
  pub order : AllPairs (IsNearer (shape_of linked.names) (rows_of linked.groups) None x) names

-- the roles of the groups that have no name yet, by bytes
pub record AreFresh (linked : Linked) (x : List ℕ) (groups : List ℕ) (names fresh : List (List ℕ)) : Type 0 where
  pub sound : (y : List ℕ) → Contains fresh y → (y ≢ x) × (¬ Contains names y) × (at : ℕ) × IsSet groups at × IsRoleAt linked y at
  pub whole : (y : List ℕ) (at : ℕ) → y ≢ x → ¬ Contains names y → IsSet groups at → IsRoleAt linked y at → Contains fresh y
  pub order : AllPairs (λ (y z : List ℕ). slice_cmp nat_cmp y z ≡ Less) fresh

pub is_named : (y : List ℕ) (names : List (List ℕ)) → Contains names y ⊎ (¬ Contains names y)
is_named y [] = inr (stands_nowhere y)
is_named y (name ∷ names) = by (cases_Bool (bytes_eq name y)) (is_named y names)
  where
    by : (bytes_eq name y ≡ true) ⊎ (bytes_eq name y ≡ false) → Contains names y ⊎ (¬ Contains names y) → Contains (name ∷ names) y ⊎ (¬ Contains (name ∷ names) y)
    by (inl same) rest = inl (subst (Contains (name ∷ names)) (same_text name y same) (stands_here name names))
    by (inr differ) (inl found) = inl (stands_behind name names y found)
    by (inr differ) (inr none) = inr (λ stands. where_is (stands_cases name names y stands))
      where
        where_is : (name ≡ y) ⊎ Contains names y → ⊥
        where_is (inl same) = false≢true (sym differ ∙ ap (λ (text : List ℕ). bytes_eq text y) same ∙ text_itself y)
        where_is (inr found) = none found

pairs_both : {X : Type 0} (R : X → X → Type 0) (xs ys : List X) → AllPairs R xs → AllPairs R ys → ((x y : X) → Contains xs x → Contains ys y → R x y) → AllPairs R (xs ++ ys)
pairs_both R [] ys first second between = second
pairs_both R (x ∷ xs) ys first second between =
    AllPairs-cons R x (xs ++ ys) (All-append (R x) xs ys (pairs_head R x xs first) (all_standing (R x) ys (λ y stands. between x y (stands_here x xs) stands)))
    (pairs_both R xs ys (pairs_tail R x xs first) second (λ a y here there. between a y (stands_behind x xs a here) there))

pub named_none : (linked : Linked) (x : List ℕ) → AreNamed linked x 0 []
unfolding Reaches
named_none linked x = record {
  sound = λ y none. absurd (stands_nowhere y none);
  whole = λ y other same. absurd (other (sym same));
  near = λ y none. absurd (stands_nowhere y none);
  order = λ i j d less within. absurd (omega arith);
}

-- the names that are reached by one link more than those before, by bytes
pub record IsLevel (linked : Linked) (x : List ℕ) (level : ℕ) (names fresh : List (List ℕ)) : Type 0 where
  pub sound : (y : List ℕ) → Contains fresh y → (y ≢ x) × (¬ Contains names y) × ReachesIn linked (suc level) x y
  pub whole : (y : List ℕ) → y ≢ x → ReachesIn linked (suc level) x y → Contains names y ⊎ Contains fresh y
  pub order : AllPairs (λ (y z : List ℕ). slice_cmp nat_cmp y z ≡ Less) fresh

pub named_level : (linked : Linked) (x : List ℕ) (level : ℕ) (names fresh : List (List ℕ)) → level < 254 → AreNamed linked x level names → IsLevel linked x level names fresh → AreNamed linked x (suc level) (names ++ fresh)
named_level linked x level names fresh low named new = record {
  sound = λ y stands. sound y (Contains-append_cases names fresh y stands);
  whole = λ y other reaches. whole y (new.whole y other reaches);
  near = λ y stands. near y (Contains-append_cases names fresh y stands);
  order = pairs_both (IsNearer (shape_of linked.names) (rows_of linked.groups) None x) names fresh named.order fresh_order between;
}
  where
    far : (y : List ℕ) → Contains fresh y → FarIn linked x y (suc level)
    far y stands = record {
      within = omega arith;
      holds = λ _. (new.sound y stands).2;
      least = λ lower less early. (new.sound y stands).1 (named.whole y (new.sound y stands).0 (reaches_more (shape_of linked.names) (rows_of linked.groups) None lower level x y (omega arith) early));
    }

    sound : (y : List ℕ) → Contains names y ⊎ Contains fresh y → (y ≢ x) × ReachesIn linked (suc level) x y
    sound y (inl old) = ((named.sound y old).0, reaches_more (shape_of linked.names) (rows_of linked.groups) None level (suc level) x y (omega arith) (named.sound y old).1)
    sound y (inr found) = ((new.sound y found).0, (new.sound y found).2)

    near : (y : List ℕ) → Contains names y ⊎ Contains fresh y → (k : ℕ) × (k ≤ suc level) × FarIn linked x y k
    near y (inl old) = let before = named.near y old in (before.0, omega (arith, before.1), before.2)
    near y (inr found) = (suc level, omega arith, far y found)

    whole : (y : List ℕ) → Contains names y ⊎ Contains fresh y → Contains (names ++ fresh) y
    whole y (inl old) = Contains-append_left names fresh y old
    whole y (inr found) = Contains-append_right names fresh y found

    fresh_order : AllPairs (IsNearer (shape_of linked.names) (rows_of linked.groups) None x) fresh
    fresh_order = λ i j d less within. record {
      near = suc level;
      far = suc level;
      to_one = far (get_or fresh i d) (Contains-get_or fresh i d (omega arith));
      to_other = far (get_or fresh j d) (Contains-get_or fresh j d within);
      before = inr (refl, new.order i j d less within);
    }

    between : (y z : List ℕ) → Contains names y → Contains fresh z → IsNearer (shape_of linked.names) (rows_of linked.groups) None x y z
    between y z old found =
        let before = named.near y old in
        record { near = before.0; far = suc level; to_one = before.2; to_other = far z found; before = inl (omega (arith, before.1)) }

-- the roles of the groups at a level are those
pub named_more : (linked : Linked) (x : List ℕ) (level : ℕ) (all groups : List ℕ) (names fresh : List (List ℕ)) → level < 254 → AreReached linked x level all groups → AreNamed linked x level names → AreFresh linked x groups names fresh → AreNamed linked x (suc level) (names ++ fresh)
named_more linked x level all groups names fresh low are named new = named_level linked x level names fresh low named (record {
  sound = λ y stands. let facts = new.sound y stands in (facts.0, facts.1, reached_on linked x y level facts.2 (are.sound facts.2 (are.reached facts.2 facts.3)) facts.4);
  whole = whole;
  order = new.order;
})
  where
    by_link : (y z : List ℕ) → y ≢ x → ReachesIn linked level x z → IsLink linked z y → Contains names y ⊎ Contains fresh y
    by_link y z other before link = which (level_cases linked x level all groups link.at are (record { name = z; reached = before; fits = link.fits })) (is_named y names)
      where
        which : IsSet groups link.at ⊎ ((fewer : ℕ) × (suc fewer ≡ level) × IsEntered linked x fewer link.at) → Contains names y ⊎ (¬ Contains names y) → Contains names y ⊎ Contains fresh y
        which at_level (inl old) = inl old
        which (inl is) (inr none) = inr (new.whole y link.at other none is link.stands)
        which (inr (fewer, e, early)) (inr none) =
            absurd (none (named.whole y other (subst (λ (k : ℕ). ReachesIn linked k x y) e (reached_on linked x y fewer link.at early link.stands))))

    whole : (y : List ℕ) → y ≢ x → ReachesIn linked (suc level) x y → Contains names y ⊎ Contains fresh y
    whole y other reaches = by (reaches_last (shape_of linked.names) (rows_of linked.groups) None level x y reaches)
      where
        by : ReachesIn linked level x y ⊎ ((z : List ℕ) × ReachesIn linked level x z × SomeLink (shape_of linked.names) (rows_of linked.groups) None z (λ role. role ≡ y)) → Contains names y ⊎ Contains fresh y
        by (inl early) = inl (named.whole y other early)
        by (inr (z, before, last)) = by_link y z other before (group_link linked z y last)
