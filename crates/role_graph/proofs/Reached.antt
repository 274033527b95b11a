-- What a name reaches, as marks of roles.
use Rattle.std.proofs.Common.{◌≡◌, ◌⊎◌, inl, inr, ◌<◌, ◌≤◌, ◌+◌, ◌-◌, ℕ, zero, suc, Bool, true, false, List, [], ◌∷◌, ◌++◌, None, IsTrue, length, drop, get_or, map, take, refl, sym, ap, subst, ◌∙◌, arith}
use Rattle.std.specs.Prelude.{◌↔◌}
use Rattle.std.specs.List.{Contains, IsDistinct, count_by}
use Rattle.std.specs.Str.{bytes_eq}
use Rattle.std.proofs.lemmas.Bool.{cases_eq, cases_lt, false≢true}
use Rattle.std.proofs.lemmas.List.{length-drop, length-map, take_more}
use Rattle.std.proofs.lemmas.List.Elements.{Contains-append_left, Contains-push, Contains-push_cases}
use Rattle.policy_table.proofs.CallerLemmas.{different_fewer}
use Rattle.role_meaning.specs.Links.{Reaches, SomeLink, role_of}
use Rattle.role_meaning.proofs.CallerLemmas.{reaches_itself, reaches_last, stands_nowhere}
use Rattle.role_graph.specs.Graph.{shape_of}
use Rattle.role_graph.specs.Groups.{row, rows_of, times}
use Rattle.role_graph.specs.Helps.Distances.{AreWithin}
use Rattle.role_graph.specs.Helps.Kept.{AreLinks, Parts, linked_of, roles_in}
use Rattle.role_graph.specs.Helps.Lists.{GoesOnFrom, Lists}
use Rattle.role_graph.specs.Helps.Marks.{IsNext, IsSet}
use Rattle.role_graph.specs.Helps.ReachMarks.{HasRoleIn, IsReach, SetsAlso}
use Rattle.role_graph.specs.Helps.Squares.{AreNodes, IsMarked, name_at}
use Rattle.role_graph.specs.Helps.Walks.{AreReached, FitsAt, GoesOn, IsEntered, IsLink, IsRoleAt, Linked, no_group}
use Rattle.role_graph.proofs.BridgeLemmas.{one_node, reaches_none}
use Rattle.role_graph.proofs.CommitLemmas.{counted_stands}
use Rattle.role_graph.proofs.CountLemmas.{stands_from_times, times_from_stands, times_linked}
use Rattle.role_graph.proofs.GatherLemmas.{counted_some, role_reached}
use Rattle.role_graph.proofs.MarkLemmas.{none_marked}
use Rattle.role_graph.proofs.NameLemmas.{ReachesIn}
use Rattle.role_graph.proofs.Rooms.{nodes_many}
use Rattle.role_graph.proofs.ShortLists.{AreSmall, IsFirstListed, IsNextListed, behind_stands, first_listed, mark_of, marks_of, next_listed, place_of}
use Rattle.role_graph.proofs.WalkLemmas.{entered_more, first_reached, group_link, next_reached, reached_on, stuck}

-- ---- walks that enter groups

-- a walk that stands at a level
pub record IsEntering (linked : Linked) (x : List ℕ) (most level : ℕ) (all new : List ℕ) : Type 0 where
  pub low : level ≤ most
  pub reached_are : AreReached linked x level all new

pub entering_begins : (linked : Linked) (x : List ℕ) (most : ℕ) (old all new : List ℕ) → ((at : ℕ) → IsSet old at → ⊥) → IsNext (λ at. FitsAt linked x at) old all new → ((at : ℕ) → FitsAt linked x at → IsSet all at) → IsEntering linked x most 0 all new
entering_begins linked x most old all new none next marked = record { low = omega arith; reached_are = first_reached linked x old all new none next marked }

pub entering_on : (linked : Linked) (x : List ℕ) (most level : ℕ) (all new all_after next : List ℕ) → level < most → IsEntering linked x most level all new → IsNext (λ at. GoesOn linked new at) all all_after next
    → ((from at : ℕ) (role : List ℕ) → IsSet new from → IsRoleAt linked role from → FitsAt linked role at → IsSet all_after at) → IsEntering linked x most (level + 1) all_after next
entering_on linked x most level all new all_after next low entering on marked = record {
  low = omega (arith, low);
  reached_are = subst (λ (k : ℕ). AreReached linked x k all_after next) (let e : suc level ≡ level + 1 = omega arith in e) (next_reached linked x level all new all_after next entering.reached_are on marked);
}

-- where no group is new, all are there that further levels would enter
pub entering_stops : (linked : Linked) (x : List ℕ) (most level : ℕ) (all new : List ℕ) → IsEntering linked x most level all new → ((at : ℕ) → IsSet new at → ⊥) → (at : ℕ) → IsSet all at ↔ IsEntered linked x most at
entering_stops linked x most level all new entering none at = (
  λ one. entered_more linked x level most at entering.low (entering.reached_are.sound at one),
  λ entered. entering.reached_are.whole at (stuck linked x level all new entering.reached_are none most at entering.low entered),
)

pub entering_ends : (linked : Linked) (x : List ℕ) (most level : ℕ) (all new : List ℕ) → most ≤ level → IsEntering linked x most level all new → (at : ℕ) → IsSet all at ↔ IsEntered linked x most at
entering_ends linked x most level all new past entering at =
    let same : level ≡ most = omega (arith, past, entering.low) in (
      λ one. subst (λ (k : ℕ). IsEntered linked x k at) same (entering.reached_are.sound at one),
      λ entered. entering.reached_are.whole at (subst (λ (k : ℕ). IsEntered linked x k at) (sym same) entered),
    )

-- the same of groups in a short list: those before a place were entered by fewer links
pub record IsListed (linked : Linked) (x : List ℕ) (most level from : ℕ) (listed : List ℕ) : Type 0 where
  pub small : AreSmall listed
  pub entering : IsEntering linked x most level (marks_of listed) (marks_of (drop from listed))

pub listed_begins : (linked : Linked) (x : List ℕ) (most : ℕ) (listed : List ℕ) → length linked.groups ≤ 200000 → Lists (λ at. FitsAt linked x at) (λ at. FitsAt linked x at) [] listed → IsListed linked x most 0 0 listed
listed_begins linked x most listed few lists =
    let first : IsFirstListed linked x listed = first_listed linked x listed few lists in
    record { small = first.small; entering = entering_begins linked x most (marks_of []) (marks_of listed) (marks_of (drop 0 listed)) none_marked first.next first.marked }

pub listed_on : (linked : Linked) (x : List ℕ) (most level from : ℕ) (listed after : List ℕ) → length linked.groups ≤ 200000 → level < most → Lists (GoesOnFrom linked listed from (length listed)) (GoesOnFrom linked listed from (length listed)) listed after
    → IsListed linked x most level from listed → IsListed linked x most (level + 1) (length listed) after
listed_on linked x most level from listed after few low lists is =
    let on : IsNextListed linked from listed after = next_listed linked from listed after few is.small lists in
    record { small = on.small; entering = entering_on linked x most level (marks_of listed) (marks_of (drop from listed)) (marks_of after) (marks_of (drop (length listed) after)) low is.entering on.next on.marked }

-- a list is what its marks are
pub listed_are : (linked : Linked) (x : List ℕ) (most : ℕ) (listed : List ℕ) → AreSmall listed → ((at : ℕ) → IsSet (marks_of listed) at ↔ IsEntered linked x most at) → (at : ℕ) → Contains listed at ↔ IsEntered linked x most at
listed_are linked x most listed small told at = (λ stands. (told at).0 (mark_of listed at small stands), λ entered. place_of listed at small ((told at).1 entered))

pub listed_stops : (linked : Linked) (x : List ℕ) (most level from : ℕ) (listed : List ℕ) → from ≡ length listed → IsListed linked x most level from listed → (at : ℕ) → Contains listed at ↔ IsEntered linked x most at
listed_stops linked x most level from listed same is =
    listed_are linked x most listed is.small (entering_stops linked x most level (marks_of listed) (marks_of (drop from listed)) is.entering
    (λ at one. none at (place_of (drop from listed) at (λ other stands. is.small other (behind_stands listed from other stands)) one)))
  where
    none : (at : ℕ) → Contains (drop from listed) at → ⊥
    none at (k, within, here) = let short : length (drop from listed) ≡ length listed - from = length-drop from listed in absurd (omega (arith, short, within, same))

pub listed_ends : (linked : Linked) (x : List ℕ) (most level from : ℕ) (listed : List ℕ) → most ≤ level → IsListed linked x most level from listed → (at : ℕ) → Contains listed at ↔ IsEntered linked x most at
listed_ends linked x most level from listed past is = listed_are linked x most listed is.small (entering_ends linked x most level (marks_of listed) (marks_of (drop from listed)) past is.entering)

pub listed_within : (linked : Linked) (x : List ℕ) (most level from : ℕ) (listed : List ℕ) → IsListed linked x most level from listed → (at : ℕ) → Contains listed at → at < length linked.groups
listed_within linked x most level from listed is at stands = (is.entering.reached_are.sound at (mark_of listed at is.small stands)).fits.within

-- what is entered stands at places of groups
pub entered_within : (linked : Linked) (x : List ℕ) (links at : ℕ) → IsEntered linked x links at → at < length linked.groups
entered_within linked x links at entered = entered.fits.within

-- ---- the roles of what is entered

-- another name that is reached is a role of a group that is entered by fewer links
entered_role : (linked : Linked) (x y : List ℕ) (links : ℕ) → (x ≡ y → ⊥) → Reaches (shape_of linked.names) (rows_of linked.groups) None (suc links) x y → HasRoleIn linked (IsEntered linked x links) y
entered_role linked x y zero other reaches = by (reaches_last (shape_of linked.names) (rows_of linked.groups) None zero x y reaches)
  where
    found : (z : List ℕ) → Reaches (shape_of linked.names) (rows_of linked.groups) None zero x z → IsLink linked z y → HasRoleIn linked (IsEntered linked x zero) y
    found z reached link = record { at = link.at; there = record { name = z; reached = reached; fits = link.fits }; stands = link.stands }

    by : Reaches (shape_of linked.names) (rows_of linked.groups) None zero x y ⊎ ((z : List ℕ) × Reaches (shape_of linked.names) (rows_of linked.groups) None zero x z × SomeLink (shape_of linked.names) (rows_of linked.groups) None z (λ role. role ≡ y)) → HasRoleIn linked (IsEntered linked x zero) y
    by (inl early) = absurd (other (reaches_none linked x y early))
    by (inr (z, reached, last)) = found z reached (group_link linked z y last)
entered_role linked x y (suc links) other reaches = by (reaches_last (shape_of linked.names) (rows_of linked.groups) None (suc links) x y reaches) (entered_role linked x y links other)
  where
    found : (z : List ℕ) → Reaches (shape_of linked.names) (rows_of linked.groups) None (suc links) x z → IsLink linked z y → HasRoleIn linked (IsEntered linked x (suc links)) y
    found z reached link = record { at = link.at; there = record { name = z; reached = reached; fits = link.fits }; stands = link.stands }

    sooner : HasRoleIn linked (IsEntered linked x links) y → HasRoleIn linked (IsEntered linked x (suc links)) y
    sooner has = record { at = has.at; there = entered_more linked x links (suc links) has.at (omega arith) has.there; stands = has.stands }

    by : Reaches (shape_of linked.names) (rows_of linked.groups) None (suc links) x y ⊎ ((z : List ℕ) × Reaches (shape_of linked.names) (rows_of linked.groups) None (suc links) x z × SomeLink (shape_of linked.names) (rows_of linked.groups) None z (λ role. role ≡ y))
        → (Reaches (shape_of linked.names) (rows_of linked.groups) None (suc links) x y → HasRoleIn linked (IsEntered linked x links) y) → HasRoleIn linked (IsEntered linked x (suc links)) y
    by (inl early) more = sooner (more early)
    by (inr (z, reached, last)) more = found z reached (group_link linked z y last)

-- ---- marks of roles

pub sets_none : (Holds : ℕ → Type 0) (marks : List ℕ) (a : ℕ) → ¬ Holds a → SetsAlso Holds marks marks a
sets_none Holds marks a none = (λ one. inl one, λ which. by which)
  where
    by : IsSet marks a ⊎ Holds a → IsSet marks a
    by (inl one) = one
    by (inr holds) = absurd (none holds)

pub sets_alike : (Holds Other : ℕ → Type 0) (old new : List ℕ) (a : ℕ) → (Holds a → Other a) → (Other a → Holds a) → SetsAlso Holds old new a → SetsAlso Other old new a
sets_alike Holds Other old new a there back also = (λ one. to (also.0 one), λ which. also.1 (from which))
  where
    to : IsSet old a ⊎ Holds a → IsSet old a ⊎ Other a
    to (inl one) = inl one
    to (inr holds) = inr (there holds)

    from : IsSet old a ⊎ Other a → IsSet old a ⊎ Holds a
    from (inl one) = inl one
    from (inr other) = inr (back other)

sets_both : (First Second Both : ℕ → Type 0) (old mid new : List ℕ) (a : ℕ) → (First a → Both a) → (Second a → Both a) → (Both a → First a ⊎ Second a) → SetsAlso First old mid a → SetsAlso Second mid new a → SetsAlso Both old new a
sets_both First Second Both old mid new a one two back first second = (λ marked. by (second.0 marked), λ which. from which)
  where
    early : IsSet old a ⊎ First a → IsSet old a ⊎ Both a
    early (inl before) = inl before
    early (inr holds) = inr (one holds)

    by : IsSet mid a ⊎ Second a → IsSet old a ⊎ Both a
    by (inl marked) = early (first.0 marked)
    by (inr holds) = inr (two holds)

    late : First a ⊎ Second a → IsSet new a
    late (inl holds) = second.1 (inl (first.1 (inr holds)))
    late (inr holds) = second.1 (inr holds)

    from : IsSet old a ⊎ Both a → IsSet new a
    from (inl before) = second.1 (inl (first.1 (inl before)))
    from (inr both) = late (back both)

-- one place is marked: that of a role
pub role_set : (names : List (List ℕ)) (name : List ℕ) (node : ℕ) (old new : List ℕ) (a : ℕ) → IsDistinct bytes_eq names → node < length names → get_or names node [] ≡ name → a < length names
    → IsSet new node → ((other : ℕ) → IsSet old other → IsSet new other) → ((other : ℕ) → IsSet new other → IsSet old other ⊎ (other ≡ node)) → SetsAlso (λ b. name_at names b ≡ name) old new a
role_set names name node old new a once within there inside marked kept only = (λ one. to (only a one), λ which. from which)
  where
    to : IsSet old a ⊎ (a ≡ node) → IsSet old a ⊎ (name_at names a ≡ name)
    to (inl one) = inl one
    to (inr same) = inr (ap (name_at names) same ∙ there)

    from : IsSet old a ⊎ (name_at names a ≡ name) → IsSet new a
    from (inl one) = kept a one
    from (inr is) = subst (IsSet new) (sym (one_node names a node once inside within (is ∙ sym there))) marked

-- one role more
pub roles_set : (names roles : List (List ℕ)) (role : List ℕ) (old mid new : List ℕ) (a : ℕ) → SetsAlso (λ b. Contains roles (name_at names b)) old mid a → SetsAlso (λ b. name_at names b ≡ role) mid new a → SetsAlso (λ b. Contains (roles ++ role ∷ []) (name_at names b)) old new a
roles_set names roles role old mid new a =
    sets_both (λ b. Contains roles (name_at names b)) (λ b. name_at names b ≡ role) (λ b. Contains (roles ++ role ∷ []) (name_at names b)) old mid new a
    (λ stands. Contains-append_left roles (role ∷ []) (name_at names a) stands)
    (λ is. subst (Contains (roles ++ role ∷ [])) (sym is) (Contains-push roles role))
    (λ stands. by (Contains-push_cases roles role (name_at names a) stands))
  where
    by : Contains roles (name_at names a) ⊎ (role ≡ name_at names a) → Contains roles (name_at names a) ⊎ (name_at names a ≡ role)
    by (inl stands) = inl stands
    by (inr is) = inr (sym is)

-- one group more
pub group_set : (linked : Linked) (names : List (List ℕ)) (In Out : ℕ → Type 0) (here : ℕ) (roles : List (List ℕ)) (old mid new : List ℕ) (a : ℕ) → roles ≡ (get_or linked.groups here no_group).roles → here < length linked.groups
    → ((at : ℕ) → In at → Out at) → Out here → ((at : ℕ) → Out at → In at ⊎ (at ≡ here))
    → SetsAlso (λ b. HasRoleIn linked In (name_at names b)) old mid a → SetsAlso (λ b. Contains roles (name_at names b)) mid new a → SetsAlso (λ b. HasRoleIn linked Out (name_at names b)) old new a
group_set linked names In Out here roles old mid new a are within keeps there cases =
    sets_both (λ b. HasRoleIn linked In (name_at names b)) (λ b. Contains roles (name_at names b)) (λ b. HasRoleIn linked Out (name_at names b)) old mid new a
    (λ has. record { at = has.at; there = keeps has.at has.there; stands = has.stands })
    (λ stands. record { at = here; there = there; stands = record { within = within; stands = subst (λ (l : List (List ℕ)). Contains l (name_at names a)) are stands } })
    (λ has. by has (cases has.at has.there))
  where
    by : (has : HasRoleIn linked Out (name_at names a)) → In has.at ⊎ (has.at ≡ here) → HasRoleIn linked In (name_at names a) ⊎ Contains roles (name_at names a)
    by has (inl early) = inl (record { at = has.at; there = early; stands = has.stands })
    by has (inr same) = inr (subst (λ (l : List (List ℕ)). Contains l (name_at names a)) (sym are) (subst (λ (k : ℕ). Contains (get_or linked.groups k no_group).roles (name_at names a)) same has.stands.stands))

-- what is set before the next place was set before this one, or is here
pub before_here : (Set : ℕ → Type 0) (place here at : ℕ) → ((other : ℕ) → place ≤ other → other < here → Set other → ⊥) → (at < here + 1) × Set at → ((at < place) × Set at) ⊎ (at ≡ here)
before_here Set place here at first one = by (cases_lt at place) (cases_eq at here)
  where
    by : (at < place) ⊎ (place ≤ at) → (at ≡ here) ⊎ (at ≡ here → ⊥) → ((at < place) × Set at) ⊎ (at ≡ here)
    by (inl low) which = inl (low, one.1)
    by (inr past) (inl same) = inr same
    by (inr past) (inr differ) = absurd (first at past (omega (arith, one.0, differ)) one.1)

pub all_before : (Set : ℕ → Type 0) (place at : ℕ) → ((other : ℕ) → place ≤ other → Set other → ⊥) → Set at → at < place
all_before Set place at none one = by (cases_lt at place)
  where
    by : (at < place) ⊎ (place ≤ at) → at < place
    by (inl low) = low
    by (inr past) = absurd (none at past one)

-- the front of a list, and one place more
longer : (listed : List ℕ) (index : ℕ) → index < length listed → take (index + 1) listed ≡ take index listed ++ get_or listed index 0 ∷ []
longer listed index within = take_more listed index 0 within

pub none_listed : (listed : List ℕ) (at : ℕ) → Contains (take 0 listed) at → ⊥
none_listed listed at stands = stands_nowhere at stands

pub listed_more : (listed : List ℕ) (index : ℕ) → index < length listed → (at : ℕ) → Contains (take index listed) at → Contains (take (index + 1) listed) at
listed_more listed index within at stands = subst (λ (l : List ℕ). Contains l at) (sym (longer listed index within)) (Contains-append_left (take index listed) (get_or listed index 0 ∷ []) at stands)

pub listed_here : (listed : List ℕ) (index here : ℕ) → index < length listed → here ≡ get_or listed index 0 → Contains (take (index + 1) listed) here
listed_here listed index here within is =
    subst (λ (l : List ℕ). Contains l here) (sym (longer listed index within)) (subst (Contains (take index listed ++ get_or listed index 0 ∷ [])) (sym is) (Contains-push (take index listed) (get_or listed index 0)))

pub listed_cases : (listed : List ℕ) (index here : ℕ) → index < length listed → here ≡ get_or listed index 0 → (at : ℕ) → Contains (take (index + 1) listed) at → Contains (take index listed) at ⊎ (at ≡ here)
listed_cases listed index here within is at stands = by (Contains-push_cases (take index listed) (get_or listed index 0) at (subst (λ (l : List ℕ). Contains l at) (longer listed index within) stands))
  where
    by : Contains (take index listed) at ⊎ (get_or listed index 0 ≡ at) → Contains (take index listed) at ⊎ (at ≡ here)
    by (inl early) = inl early
    by (inr same) = inr (sym same ∙ sym is)

-- no group yet
pub no_group_set : (linked : Linked) (names : List (List ℕ)) (In : ℕ → Type 0) (marks : List ℕ) (a : ℕ) → ((at : ℕ) → In at → ⊥) → SetsAlso (λ b. HasRoleIn linked In (name_at names b)) marks marks a
no_group_set linked names In marks a none = sets_none (λ b. HasRoleIn linked In (name_at names b)) marks a (λ has. none has.at has.there)

-- the same groups otherwise
pub groups_alike : (linked : Linked) (names : List (List ℕ)) (In Out : ℕ → Type 0) (old new : List ℕ) (a : ℕ) → ((at : ℕ) → In at → Out at) → ((at : ℕ) → Out at → In at) → SetsAlso (λ b. HasRoleIn linked In (name_at names b)) old new a
    → SetsAlso (λ b. HasRoleIn linked Out (name_at names b)) old new a
groups_alike linked names In Out old new a there back =
    sets_alike (λ b. HasRoleIn linked In (name_at names b)) (λ b. HasRoleIn linked Out (name_at names b)) old new a
    (λ has. record { at = has.at; there = there has.at has.there; stands = has.stands })
    (λ has. record { at = has.at; there = back has.at has.there; stands = has.stands })

-- ---- what is marked in the end

pub reach_walked : (linked : Linked) (names : List (List ℕ)) (most : ℕ) (x old new : List ℕ) → AreNodes linked names → length names ≤ 200000 → 1 ≤ most → ((a : ℕ) → a < length names → IsSet old a → ⊥)
    → ((a : ℕ) → a < length names → SetsAlso (λ b. HasRoleIn linked (IsEntered linked x (most - 1)) (name_at names b)) old new a) → IsReach linked names most x new
reach_walked linked names most x old new nodes few some none also = record {
  nodes = nodes;
  few = few;
  each = λ a within other. (λ one. to a within ((also a within).0 one), λ reaches. (also a within).1 (inr (entered_role linked x (name_at names a) (most - 1) (λ same. other (sym same)) (subst (λ (k : ℕ). ReachesIn linked k x (name_at names a)) less reaches))));
}
  where
    less : most ≡ suc (most - 1)
    less = omega (arith, some)

    to : (a : ℕ) → a < length names → IsSet old a ⊎ HasRoleIn linked (IsEntered linked x (most - 1)) (name_at names a) → ReachesIn linked most x (name_at names a)
    to a within (inl one) = absurd (none a within one)
    to a within (inr has) = subst (λ (k : ℕ). ReachesIn linked k x (name_at names a)) (sym less) (reached_on linked x (name_at names a) (most - 1) has.at has.there has.stands)

-- marks that were copied up to a node
pub record IsCopied (near : List Bool) (count upto : ℕ) (marks : List ℕ) : Type 0 where
  pub done : (a : ℕ) → a < upto → IsSet marks a ↔ IsMarked near a
  pub left : (a : ℕ) → upto ≤ a → a < count → IsSet marks a → ⊥

pub copied_begins : (near : List Bool) (count : ℕ) (marks : List ℕ) → ((a : ℕ) → a < count → IsSet marks a → ⊥) → IsCopied near count 0 marks
copied_begins near count marks none = record { done = λ a low. absurd (omega (arith, low)); left = λ a past within. none a within }

pub copied_skips : (near : List Bool) (count upto : ℕ) (marks : List ℕ) → upto < count → (IsMarked near upto → ⊥) → IsCopied near count upto marks → IsCopied near count (upto + 1) marks
copied_skips near count upto marks within never copied = record {
  done = λ a low. by a low (cases_eq a upto);
  left = λ a past inside. copied.left a (omega (arith, past)) inside;
}
  where
    by : (a : ℕ) → a < upto + 1 → (a ≡ upto) ⊎ (a ≡ upto → ⊥) → IsSet marks a ↔ IsMarked near a
    by a low (inl same) = (λ one. absurd (copied.left a (omega (arith, same)) (omega (arith, same, within)) one), λ marked. absurd (never (subst (IsMarked near) same marked)))
    by a low (inr differ) = copied.done a (omega (arith, low, differ))

pub copied_sets : (near : List Bool) (count upto : ℕ) (old new : List ℕ) → upto < count → IsMarked near upto → IsSet new upto → ((other : ℕ) → IsSet old other → IsSet new other) → ((other : ℕ) → IsSet new other → IsSet old other ⊎ (other ≡ upto))
    → IsCopied near count upto old → IsCopied near count (upto + 1) new
copied_sets near count upto old new within marked set kept only copied = record {
  done = λ a low. by a low (cases_eq a upto);
  left = λ a past inside one. behind a past inside (only a one);
}
  where
    early : (a : ℕ) → (a ≡ upto → ⊥) → IsSet old a ⊎ (a ≡ upto) → IsSet old a
    early a differ (inl one) = one
    early a differ (inr same) = absurd (differ same)

    by : (a : ℕ) → a < upto + 1 → (a ≡ upto) ⊎ (a ≡ upto → ⊥) → IsSet new a ↔ IsMarked near a
    by a low (inl same) = (λ one. subst (IsMarked near) (sym same) marked, λ is. subst (IsSet new) (sym same) set)
    by a low (inr differ) =
        let before = copied.done a (omega (arith, low, differ)) in
        (λ one. before.0 (early a differ (only a one)), λ is. kept a (before.1 is))

    behind : (a : ℕ) → upto + 1 ≤ a → a < count → IsSet old a ⊎ (a ≡ upto) → ⊥
    behind a past inside (inl one) = copied.left a (omega (arith, past)) inside one
    behind a past inside (inr same) = absurd (omega (arith, past, same))

pub reach_kept : (linked : Linked) (names : List (List ℕ)) (most : ℕ) (x : List ℕ) (near : List Bool) (count upto : ℕ) (marks : List ℕ) → AreNodes linked names → length names ≤ 1024 → count ≡ length names → count ≤ upto → AreWithin linked names x most near
    → IsCopied near count upto marks → IsReach linked names most x marks
reach_kept linked names most x near count upto marks nodes few counts past within copied = record {
  nodes = nodes;
  few = omega (arith, few);
  each = λ a inside other.
      (let same = copied.done a (omega (arith, inside, counts, past)) in let told = within.each a inside in (λ one. told.0 (same.0 one), λ reaches. same.1 (told.1 reaches)));
}

-- there are not more roles than rows
pub nodes_few : (linked : Linked) (names : List (List ℕ)) → AreNodes linked names → length (rows_of linked.groups) ≤ 200000 → length names ≤ 200000
nodes_few linked names nodes few =
    omega (arith, nodes_many linked names nodes, different_fewer (map role_of (rows_of linked.groups)), length-map (rows_of linked.groups) role_of, few)

-- ---- what is asked

-- the name itself
pub reach_itself : (linked : Linked) (x y : List ℕ) (most : ℕ) → x ≡ y → IsTrue true ↔ ReachesIn linked most x y
reach_itself linked x y most same = (λ holds. reaches_itself (shape_of linked.names) (rows_of linked.groups) None most x y same, λ reaches. refl)

-- another that is no role
pub reach_nowhere : (linked : Linked) (names : List (List ℕ)) (x y marks : List ℕ) (most : ℕ) → (x ≡ y → ⊥) → (Contains names y → ⊥) → IsReach linked names most x marks → IsTrue false ↔ ReachesIn linked most x y
reach_nowhere linked names x y marks most differ none reach = (
  λ holds. absurd (false≢true holds),
  λ reaches. absurd (none (reach.nodes.all y (role_reached (shape_of linked.names) (rows_of linked.groups) most x y (λ same. differ (sym same)) reaches))),
)

-- another that is one
pub reach_role : (linked : Linked) (names : List (List ℕ)) (x y marks : List ℕ) (most node : ℕ) (test : Bool) → (x ≡ y → ⊥) → node < length names → get_or names node [] ≡ y → IsTrue test ↔ IsSet marks node → IsReach linked names most x marks → IsTrue test ↔ ReachesIn linked most x y
reach_role linked names x y marks most node test differ within is told reach =
    let each = reach.each node within (λ same. differ (sym same ∙ is)) in (
      λ holds. subst (ReachesIn linked most x) is (each.0 (told.0 holds)),
      λ reaches. told.1 (each.1 (subst (ReachesIn linked most x) (sym is) reaches)),
    )

-- ---- the roles of a user

pub roles_told : (parts : Parts) (user role : List ℕ) (roles : List (List ℕ)) → AreLinks parts.names parts.plain.groups parts.patterned.groups → roles ≡ roles_in parts user → Contains roles role ↔ Contains (rows_of (linked_of parts).groups) (row user role)
roles_told parts user role roles links are = (
  λ stands. stands_from_times (row user role) (rows_of (linked_of parts).groups) (omega (arith, as_often, counted_some role (roles_in parts user) (subst (λ (l : List (List ℕ)). Contains l role) are stands))),
  λ stands. subst (λ (l : List (List ℕ)). Contains l role) (sym are) (counted_stands role (roles_in parts user) (omega (arith, as_often, times_from_stands (row user role) (rows_of (linked_of parts).groups) stands))),
)
  where
    as_often : times (row user role) (rows_of (linked_of parts).groups) ≡ count_by (bytes_eq role) (roles_in parts user)
    as_often = times_linked parts user role links.texts links.patterns links.kept_texts links.kept_patterns
