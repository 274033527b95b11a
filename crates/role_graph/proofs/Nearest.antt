-- Distances of a name by way of the roles that it has.
use Rattle.std.proofs.Common.{◌≡◌, ◌⊎◌, inl, inr, ◌<◌, ◌≤◌, ◌+◌, ℕ, zero, suc, Bool, true, false, ◌||◌, List, [], ◌∷◌, ◌++◌, None, length, map, get_or, take, min, refl, sym, ap, subst, ◌∙◌, arith}
use Rattle.std.specs.List.{Contains}
use Rattle.std.specs.Str.{bytes_eq}
use Rattle.std.proofs.lemmas.Bool.{cases_Bool, cases_eq, cases_lt, false≢true}
use Rattle.std.proofs.lemmas.List.{take_all}
use Rattle.std.proofs.lemmas.List.Elements.{Contains-append_left, Contains-push, Contains-push_cases}
use Rattle.std.proofs.lemmas.List.Sums.{sum_by-append, sum_by-cons}
use Rattle.std.proofs.lemmas.Slice.Eq.{bytes_eq-Decides}
use Rattle.dist_rows.specs.Squares.{cell_of}
use Rattle.perm_base.specs.Patterns.{is_pattern}
use Rattle.perm_base.specs.declared.shapes.Fit.{Fit}
use Rattle.policy_table.specs.Tables.{Fields}
use Rattle.role_meaning.specs.Distances.{IsFar, farthest}
use Rattle.role_meaning.specs.Fits.{Fits}
use Rattle.role_meaning.specs.Least.{IsLeast}
use Rattle.role_meaning.specs.Links.{role_of, user_of}
use Rattle.role_meaning.proofs.CallerLemmas.{map_stands, plain_fits, reaches_itself, stands_nowhere}
use Rattle.role_graph.specs.Graph.{asked_rows, shape_of}
use Rattle.role_graph.specs.Groups.{Group, row, rows_of}
use Rattle.role_graph.specs.Helps.Distances.{ReachesBy, ReachesByGroup, ReachesBySome}
use Rattle.role_graph.specs.Helps.Squares.{AreNodes, IsExact, name_at}
use Rattle.role_graph.specs.Helps.Walks.{FitsAt, IsLink, Linked, no_group}
use Rattle.role_graph.proofs.BridgeLemmas.{reaches_cases, reaches_link, reaches_none}
use Rattle.role_graph.proofs.EditLemmas.{once}
use Rattle.role_graph.proofs.GatherLemmas.{role_reached}
use Rattle.role_graph.proofs.GroupRows.{row_stands}
use Rattle.role_graph.proofs.Leasts.{least_alike, least_below, least_either, least_none}
use Rattle.role_graph.proofs.NameLemmas.{ReachesIn}

-- ---- by way of a role

pub least_by_role : (linked : Linked) (role y : List ℕ) (far result : ℕ) → IsFar (shape_of linked.names) (rows_of linked.groups) None role y far → result ≡ min (far + 1) 255 → IsLeast farthest (λ links. ReachesBy linked role y links) result
least_by_role linked role y far result is sum = record {
  within = omega (arith, sum, is.within);
  holds = λ low. subst (ReachesBy linked role y) (let e : suc far ≡ result = omega (arith, sum) in e) (is.holds (omega (arith, sum)));
  least = least;
}
  where
    least : (lower : ℕ) → lower < result → ¬ ReachesBy linked role y lower
    least zero less none = none
    least (suc links) less reaches =
        let near : far ≤ links = least_below farthest (λ k. ReachesIn linked k role y) far links is reaches in omega (arith, sum)

-- ---- by way of some roles

pub least_by_none : (linked : Linked) (y : List ℕ) (found : ℕ) → found ≡ 255 → IsLeast farthest (λ links. ReachesBySome linked [] y links) found
least_by_none linked y found is = least_none farthest (λ links. ReachesBySome linked [] y links) found (omega (arith, is)) (λ links some. stands_nowhere some.role some.stands)

pub least_by_more : (linked : Linked) (roles : List (List ℕ)) (role y : List ℕ) (before one found : ℕ) → IsLeast farthest (λ links. ReachesBySome linked roles y links) before → IsLeast farthest (λ links. ReachesBy linked role y links) one → found ≡ min before one → IsLeast farthest (λ links. ReachesBySome linked (roles ++ role ∷ []) y links) found
least_by_more linked roles role y before one found first second is =
    least_alike farthest (λ links. ReachesBySome linked roles y links ⊎ ReachesBy linked role y links) (λ links. ReachesBySome linked (roles ++ role ∷ []) y links) found there back
    (least_either farthest (λ links. ReachesBySome linked roles y links) (λ links. ReachesBy linked role y links) before one found first second is)
  where
    there : (links : ℕ) → ReachesBySome linked roles y links ⊎ ReachesBy linked role y links → ReachesBySome linked (roles ++ role ∷ []) y links
    there links (inl some) = record { role = some.role; stands = Contains-append_left roles (role ∷ []) some.role some.stands; reaches = some.reaches }
    there links (inr reaches) = record { role = role; stands = Contains-push roles role; reaches = reaches }

    back : (links : ℕ) → ReachesBySome linked (roles ++ role ∷ []) y links → ReachesBySome linked roles y links ⊎ ReachesBy linked role y links
    back links some = by (Contains-push_cases roles role some.role some.stands)
      where
        by : Contains roles some.role ⊎ (role ≡ some.role) → ReachesBySome linked roles y links ⊎ ReachesBy linked role y links
        by (inl stands) = inl (record { role = some.role; stands = stands; reaches = some.reaches })
        by (inr same) = inr (subst (λ (r : List ℕ). ReachesBy linked r y links) (sym same) some.reaches)

-- ---- by way of the rows of a name

pub least_by_no_group : (linked : Linked) (x y : List ℕ) (found : ℕ) → found ≡ 255 → IsLeast farthest (λ links. ReachesByGroup linked x y 0 links) found
least_by_no_group linked x y found is = least_none farthest (λ links. ReachesByGroup linked x y 0 links) found (omega (arith, is)) (λ links by. absurd (omega (arith, by.before)))

-- one group more, where none stands between
pub group_more : (linked : Linked) (x y : List ℕ) (place at : ℕ) (roles : List (List ℕ)) (links : ℕ) → roles ≡ (get_or linked.groups at no_group).roles → place ≤ at → FitsAt linked x at → ReachesByGroup linked x y place links ⊎ ReachesBySome linked roles y links → ReachesByGroup linked x y (at + 1) links
group_more linked x y place at roles links is past fits (inl by) = record { at = by.at; before = omega (arith, by.before); fits = by.fits; role = by.role; stands = by.stands; reaches = by.reaches }
group_more linked x y place at roles links is past fits (inr some) = record {
  at = at;
  before = omega arith;
  fits = fits;
  role = some.role;
  stands = record { within = fits.within; stands = subst (λ (l : List (List ℕ)). Contains l some.role) is some.stands };
  reaches = some.reaches;
}

pub group_cases : (linked : Linked) (x y : List ℕ) (place at : ℕ) (roles : List (List ℕ)) (links : ℕ) → roles ≡ (get_or linked.groups at no_group).roles → ((other : ℕ) → place ≤ other → other < at → FitsAt linked x other → ⊥) → ReachesByGroup linked x y (at + 1) links → ReachesByGroup linked x y place links ⊎ ReachesBySome linked roles y links
group_cases linked x y place at roles links is none by = which (cases_eq by.at at) (cases_lt by.at place)
  where
    which : (by.at ≡ at) ⊎ (¬ (by.at ≡ at)) → (by.at < place) ⊎ (place ≤ by.at) → ReachesByGroup linked x y place links ⊎ ReachesBySome linked roles y links
    which (inl same) where_it = inr (record {
      role = by.role;
      stands = subst (λ (l : List (List ℕ)). Contains l by.role) (ap (λ (n : ℕ). (get_or linked.groups n no_group).roles) same ∙ sym is) by.stands.stands;
      reaches = by.reaches;
    })
    which (inr differ) (inl before) = inl (record { at = by.at; before = before; fits = by.fits; role = by.role; stands = by.stands; reaches = by.reaches })
    which (inr differ) (inr past) = absurd (none by.at past (omega (arith, by.before)) by.fits)

pub least_by_group : (linked : Linked) (x y : List ℕ) (place at : ℕ) (roles : List (List ℕ)) (before one found : ℕ) → roles ≡ (get_or linked.groups at no_group).roles → place ≤ at → FitsAt linked x at → ((other : ℕ) → place ≤ other → other < at → FitsAt linked x other → ⊥)
    → IsLeast farthest (λ links. ReachesByGroup linked x y place links) before → IsLeast farthest (λ links. ReachesBySome linked roles y links) one → found ≡ min before one → IsLeast farthest (λ links. ReachesByGroup linked x y (at + 1) links) found
least_by_group linked x y place at roles before one found is past fits none first second least =
    least_alike farthest (λ links. ReachesByGroup linked x y place links ⊎ ReachesBySome linked roles y links) (λ links. ReachesByGroup linked x y (at + 1) links) found
    (λ links. group_more linked x y place at roles links is past fits) (λ links. group_cases linked x y place at roles links is none)
    (least_either farthest (λ links. ReachesByGroup linked x y place links) (λ links. ReachesBySome linked roles y links) before one found first second least)

-- behind the last group that the name fits
pub group_all : (linked : Linked) (x y : List ℕ) (place links : ℕ) → ((other : ℕ) → place ≤ other → FitsAt linked x other → ⊥) → ReachesByGroup linked x y (length linked.groups) links → ReachesByGroup linked x y place links
group_all linked x y place links none by = which (cases_lt by.at place)
  where
    which : (by.at < place) ⊎ (place ≤ by.at) → ReachesByGroup linked x y place links
    which (inl before) = record { at = by.at; before = before; fits = by.fits; role = by.role; stands = by.stands; reaches = by.reaches }
    which (inr past) = absurd (none by.at past by.fits)

pub group_any : (linked : Linked) (x y : List ℕ) (place links : ℕ) → ReachesByGroup linked x y place links → ReachesByGroup linked x y (length linked.groups) links
group_any linked x y place links by = record { at = by.at; before = by.fits.within; fits = by.fits; role = by.role; stands = by.stands; reaches = by.reaches }

pub least_by_groups : (linked : Linked) (x y : List ℕ) (place found : ℕ) → ((other : ℕ) → place ≤ other → FitsAt linked x other → ⊥) → IsLeast farthest (λ links. ReachesByGroup linked x y place links) found → IsLeast farthest (λ links. ReachesByGroup linked x y (length linked.groups) links) found
least_by_groups linked x y place found none least =
    least_alike farthest (λ links. ReachesByGroup linked x y place links) (λ links. ReachesByGroup linked x y (length linked.groups) links) found (λ links. group_any linked x y place links) (λ links. group_all linked x y place links none) least

-- a name reaches another one by way of its rows alone
pub by_groups : (linked : Linked) (x y : List ℕ) (links : ℕ) → (x ≡ y → ⊥) → ReachesIn linked links x y → ReachesByGroup linked x y (length linked.groups) links
by_groups linked x y zero differ reaches = absurd (differ (reaches_none linked x y reaches))
by_groups linked x y (suc links) differ reaches = by (reaches_cases linked links x y reaches)
  where
    by : (x ≡ y) ⊎ ((z : List ℕ) × IsLink linked x z × Contains (map role_of (rows_of linked.groups)) z × ReachesIn linked links z y) → ReachesByGroup linked x y (length linked.groups) (suc links)
    by (inl same) = absurd (differ same)
    by (inr (z, link, stands, rest)) = record { at = link.at; before = link.fits.within; fits = link.fits; role = z; stands = link.stands; reaches = rest }

pub from_groups : (linked : Linked) (x y : List ℕ) (place links : ℕ) → ReachesByGroup linked x y place links → ReachesIn linked links x y
from_groups linked x y place zero by = absurd by.reaches
from_groups linked x y place (suc links) by = reaches_link linked links x by.role y (record { at = by.at; fits = by.fits; stands = by.stands }) by.reaches

pub far_by_rows : (linked : Linked) (x y : List ℕ) (found : ℕ) → (x ≡ y → ⊥) → IsLeast farthest (λ links. ReachesByGroup linked x y (length linked.groups) links) found → IsFar (shape_of linked.names) (rows_of linked.groups) None x y found
far_by_rows linked x y found differ least =
    least_alike farthest (λ links. ReachesByGroup linked x y (length linked.groups) links) (λ links. ReachesIn linked links x y) found (λ links. from_groups linked x y (length linked.groups) links) (λ links. by_groups linked x y links differ) least

-- a name that fits no group reaches no other
pub far_unfitted : (linked : Linked) (x y : List ℕ) → ((other : ℕ) → 0 ≤ other → FitsAt linked x other → ⊥) → (x ≡ y → ⊥) → IsFar (shape_of linked.names) (rows_of linked.groups) None x y 255
far_unfitted linked x y none differ = far_by_rows linked x y 255 differ (least_by_groups linked x y 0 255 none (least_by_no_group linked x y 255 refl))

-- a role of a group that a name fits is linked to it
pub link_by : (linked : Linked) (x y : List ℕ) (at : ℕ) (roles : List (List ℕ)) → FitsAt linked x at → roles ≡ (get_or linked.groups at no_group).roles → Contains roles y → IsLink linked x y
link_by linked x y at roles fits is stands = record { at = at; fits = fits; stands = record { within = fits.within; stands = subst (λ (l : List (List ℕ)). Contains l y) is stands } }

-- the first group that a name fits
pub least_by_first : (linked : Linked) (x y : List ℕ) (first : ℕ) (roles : List (List ℕ)) (one : ℕ) → roles ≡ (get_or linked.groups first no_group).roles → FitsAt linked x first → ((other : ℕ) → 0 ≤ other → other < first → FitsAt linked x other → ⊥) → IsLeast farthest (λ links. ReachesBySome linked roles y links) one → IsLeast farthest (λ links. ReachesByGroup linked x y (first + 1) links) one
least_by_first linked x y first roles one is fits none least =
    least_by_group linked x y 0 first roles 255 one one is (omega arith) fits none (least_by_no_group linked x y 255 refl) least (let low : one ≤ 255 = least.within in omega (arith, low))

-- a name is at no distance from itself, and reaches none that is no role
pub far_itself : (linked : Linked) (x y : List ℕ) → x ≡ y → IsFar (shape_of linked.names) (rows_of linked.groups) None x y 0
far_itself linked x y same = record {
  within = omega arith;
  holds = λ _. reaches_itself (shape_of linked.names) (rows_of linked.groups) None 0 x y same;
  least = λ lower less. absurd (omega arith);
}

-- a row links two names that differ by one link
pub far_linked : (linked : Linked) (x y : List ℕ) → (x ≡ y → ⊥) → IsLink linked x y → IsFar (shape_of linked.names) (rows_of linked.groups) None x y 1
far_linked linked x y differ link = record {
  within = omega arith;
  holds = λ _. reaches_link linked 0 x y y link (reaches_itself (shape_of linked.names) (rows_of linked.groups) None 0 y y refl);
  least = least;
}
  where
    least : (lower : ℕ) → lower < 1 → ¬ ReachesIn linked lower x y
    least zero less reaches = differ (reaches_none linked x y reaches)
    least (suc lower) less reaches = absurd (omega (arith, less))

pub far_nowhere : (linked : Linked) (names : List (List ℕ)) (x y : List ℕ) → AreNodes linked names → (Contains names y → ⊥) → (x ≡ y → ⊥) → IsFar (shape_of linked.names) (rows_of linked.groups) None x y 255
far_nowhere linked names x y nodes none differ =
    least_none farthest (λ links. ReachesIn linked links x y) 255 (omega arith)
    (λ links reaches. none (nodes.all y (role_reached (shape_of linked.names) (rows_of linked.groups) links x y (λ same. differ (sym same)) reaches)))

pub far_roles : (linked : Linked) (names : List (List ℕ)) (cells : List (List ℕ)) (x y : List ℕ) (from to found : ℕ) → IsExact linked names cells → from < length names → to < length names → name_at names from ≡ x → name_at names to ≡ y → found ≡ cell_of cells from to → IsFar (shape_of linked.names) (rows_of linked.groups) None x y found
far_roles linked names cells x y from to found exact first second one other is =
    subst (IsFar (shape_of linked.names) (rows_of linked.groups) None x y) (sym is)
    (subst (λ (name : List ℕ). IsFar (shape_of linked.names) (rows_of linked.groups) None name y (cell_of cells from to)) one
    (subst (λ (name : List ℕ). IsFar (shape_of linked.names) (rows_of linked.groups) None (name_at names from) name (cell_of cells from to)) other (exact.far from to first second)))

-- the roles of a group are nodes
pub roles_of_nodes : (linked : Linked) (names : List (List ℕ)) (at : ℕ) (roles : List (List ℕ)) (role : List ℕ) → AreNodes linked names → roles ≡ (get_or linked.groups at no_group).roles → at < length linked.groups → Contains roles role → Contains names role
roles_of_nodes linked names at roles role nodes is within stands =
    nodes.all role (map_stands role_of (rows_of linked.groups) (row (get_or linked.groups at no_group).user role) (row_stands linked.groups at role within (subst (λ (l : List (List ℕ)). Contains l role) is stands)))

-- ---- steps

or_true : (a b : Bool) → (a ≡ true) ⊎ (b ≡ true) → (a || b) ≡ true
or_true true b which = refl
or_true false b (inl is) = absurd (false≢true is)
or_true false b (inr is) = is

-- the rows of a user that the name fits are asked
user_asked : (names : Fit) (x user : List ℕ) → Fits names x user → (bytes_eq x user || is_pattern names user) ≡ true
user_asked names x user fits = by (cases_Bool (is_pattern names user))
  where
    by : (is_pattern names user ≡ true) ⊎ (is_pattern names user ≡ false) → (bytes_eq x user || is_pattern names user) ≡ true
    by (inl pattern) = or_true (bytes_eq x user) (is_pattern names user) (inr pattern)
    by (inr text) = or_true (bytes_eq x user) (is_pattern names user) (inl ((bytes_eq-Decides x user).1 (plain_fits names x user text fits)))

asked_first : (names : Fit) (x : List ℕ) (first : Fields) (rows : List Fields) → asked_rows names x (first ∷ rows) ≡ once (bytes_eq x (user_of first) || is_pattern names (user_of first)) + asked_rows names x rows
asked_first names x first rows = sum_by-cons (λ (r : Fields). once (bytes_eq x (user_of r) || is_pattern names (user_of r))) first rows

asked_both : (names : Fit) (x : List ℕ) (rows others : List Fields) → asked_rows names x (rows ++ others) ≡ asked_rows names x rows + asked_rows names x others
asked_both names x rows others = sum_by-append (λ (r : Fields). once (bytes_eq x (user_of r) || is_pattern names (user_of r))) rows others

asked_group : (names : Fit) (x user : List ℕ) (roles : List (List ℕ)) → Fits names x user → asked_rows names x (map (row user) roles) ≡ length roles
asked_group names x user [] fits = refl
asked_group names x user (role ∷ roles) fits =
    let first : asked_rows names x (row user role ∷ map (row user) roles) ≡ once (bytes_eq x user || is_pattern names user) + asked_rows names x (map (row user) roles) = asked_first names x (row user role) (map (row user) roles) in
    let here : once (bytes_eq x user || is_pattern names user) ≡ 1 = ap once (user_asked names x user fits) in
    let rest : asked_rows names x (map (row user) roles) ≡ length roles = asked_group names x user roles fits in
    omega (arith, first, here, rest)

-- fewer groups have no more such rows
asked_less : (names : Fit) (x : List ℕ) (groups : List Group) (place at : ℕ) → place ≤ at → asked_rows names x (rows_of (take place groups)) ≤ asked_rows names x (rows_of (take at groups))
unfolding rows_of
asked_less names x groups zero at less = omega arith
asked_less names x groups (suc place) zero less = absurd (omega arith)
asked_less names x [] (suc place) (suc at) less = omega arith
asked_less names x (group ∷ groups) (suc place) (suc at) less =
    let one : asked_rows names x (map (row group.user) group.roles ++ rows_of (take place groups)) ≡ asked_rows names x (map (row group.user) group.roles) + asked_rows names x (rows_of (take place groups)) = asked_both names x (map (row group.user) group.roles) (rows_of (take place groups)) in
    let two : asked_rows names x (map (row group.user) group.roles ++ rows_of (take at groups)) ≡ asked_rows names x (map (row group.user) group.roles) + asked_rows names x (rows_of (take at groups)) = asked_both names x (map (row group.user) group.roles) (rows_of (take at groups)) in
    let rest : asked_rows names x (rows_of (take place groups)) ≤ asked_rows names x (rows_of (take at groups)) = asked_less names x groups place at (omega arith) in
    omega (arith, one, two, rest)

asked_on : (names : Fit) (x : List ℕ) (groups : List Group) (at : ℕ) → at < length groups → Fits names x (get_or groups at no_group).user → asked_rows names x (rows_of (take at groups)) + length (get_or groups at no_group).roles ≤ asked_rows names x (rows_of (take (suc at) groups))
unfolding rows_of
asked_on names x [] at within fits = absurd (omega arith)
asked_on names x (group ∷ groups) zero within fits =
    let both : asked_rows names x (map (row group.user) group.roles ++ rows_of (take 0 groups)) ≡ asked_rows names x (map (row group.user) group.roles) + asked_rows names x (rows_of (take 0 groups)) = asked_both names x (map (row group.user) group.roles) (rows_of (take 0 groups)) in
    let here : asked_rows names x (map (row group.user) group.roles) ≡ length group.roles = asked_group names x group.user group.roles fits in
    omega (arith, both, here)
asked_on names x (group ∷ groups) (suc at) within fits =
    let one : asked_rows names x (map (row group.user) group.roles ++ rows_of (take at groups)) ≡ asked_rows names x (map (row group.user) group.roles) + asked_rows names x (rows_of (take at groups)) = asked_both names x (map (row group.user) group.roles) (rows_of (take at groups)) in
    let two : asked_rows names x (map (row group.user) group.roles ++ rows_of (take (suc at) groups)) ≡ asked_rows names x (map (row group.user) group.roles) + asked_rows names x (rows_of (take (suc at) groups)) = asked_both names x (map (row group.user) group.roles) (rows_of (take (suc at) groups)) in
    let rest : asked_rows names x (rows_of (take at groups)) + length (get_or groups at no_group).roles ≤ asked_rows names x (rows_of (take (suc at) groups)) = asked_on names x groups at (omega arith) fits in
    omega (arith, one, two, rest)

-- a group that the name fits brings no more steps than it has rows that are asked
pub steps_more : (linked : Linked) (x : List ℕ) (place at before now after count : ℕ) → place ≤ at → FitsAt linked x at → count ≡ length (get_or linked.groups at no_group).roles → now ≤ before + asked_rows linked.names x (rows_of (take place linked.groups)) → after ≡ now + count → after ≤ before + asked_rows linked.names x (rows_of (take (at + 1) linked.groups))
steps_more linked x place at before now after count past fits is low more =
    let earlier : asked_rows linked.names x (rows_of (take place linked.groups)) ≤ asked_rows linked.names x (rows_of (take at linked.groups)) = asked_less linked.names x linked.groups place at past in
    let on : asked_rows linked.names x (rows_of (take at linked.groups)) + length (get_or linked.groups at no_group).roles ≤ asked_rows linked.names x (rows_of (take (suc at) linked.groups)) = asked_on linked.names x linked.groups at fits.within fits.fits in
    let same : asked_rows linked.names x (rows_of (take (suc at) linked.groups)) ≡ asked_rows linked.names x (rows_of (take (at + 1) linked.groups)) = ap (λ (n : ℕ). asked_rows linked.names x (rows_of (take n linked.groups))) (let e : suc at ≡ at + 1 = omega arith in e) in
    omega (arith, earlier, on, same, is)

pub steps_all : (linked : Linked) (x : List ℕ) (place : ℕ) → asked_rows linked.names x (rows_of (take place linked.groups)) ≤ asked_rows linked.names x (rows_of linked.groups)
steps_all linked x place = by (cases_lt place (length linked.groups))
  where
    by : (place < length linked.groups) ⊎ (length linked.groups ≤ place) → asked_rows linked.names x (rows_of (take place linked.groups)) ≤ asked_rows linked.names x (rows_of linked.groups)
    by (inl within) =
        let less : asked_rows linked.names x (rows_of (take place linked.groups)) ≤ asked_rows linked.names x (rows_of (take (length linked.groups) linked.groups)) = asked_less linked.names x linked.groups place (length linked.groups) (omega arith) in
        let whole : asked_rows linked.names x (rows_of (take (length linked.groups) linked.groups)) ≡ asked_rows linked.names x (rows_of linked.groups) = ap (λ (l : List Group). asked_rows linked.names x (rows_of l)) (take_all (length linked.groups) linked.groups (omega arith)) in
        omega (arith, less, whole)
    by (inr past) = let whole : asked_rows linked.names x (rows_of (take place linked.groups)) ≡ asked_rows linked.names x (rows_of linked.groups) = ap (λ (l : List Group). asked_rows linked.names x (rows_of l)) (take_all place linked.groups past) in omega (arith, whole)
