-- A square before it follows an edit: what it tells of nodes that the edit does not touch is right.
use Rattle.std.proofs.Common.{◌≡◌, ◌⊎◌, inl, inr, ◌<◌, ◌≤◌, ◌+◌, ℕ, zero, suc, Bool, true, false, cond, ◌||◌, List, [], ◌∷◌, ◌++◌, None, length, map, get_or, refl, sym, ap, subst, ◌∙◌, arith, length-append}
use Rattle.std.specs.Prelude.{filter, not}
use Rattle.std.specs.List.{Contains, IsDistinct}
use Rattle.std.specs.Str.{bytes_eq}
use Rattle.std.proofs.lemmas.Bool.{cases_Bool, cases_lt, false≢true}
use Rattle.std.proofs.lemmas.List.{get_or_append_left}
use Rattle.std.proofs.lemmas.Slice.Eq.{bytes_eq-Decides}
use Rattle.dist_rows.specs.Squares.{most_nodes}
use Rattle.policy_table.specs.Tables.{Fields}
use Rattle.role_meaning.specs.Fits.{Fits}
use Rattle.role_meaning.specs.Links.{SomeLink, role_of, user_of}
use Rattle.role_meaning.proofs.CallerLemmas.{map_stands, stands_behind, stands_here}
use Rattle.role_graph.specs.Graph.{shape_of}
use Rattle.role_graph.specs.Groups.{Group, after, has_user, rows_of, times}
use Rattle.role_graph.specs.Helps.Squares.{AreNodes, IsBefore, IsExact, IsMarked, IsNear, IsNodeLink, name_at}
use Rattle.role_graph.specs.Helps.Walks.{IsLink, Linked, no_group}
use Rattle.role_graph.proofs.BridgeLemmas.{closed_from, link_near, near_told, node_of, one_node}
use Rattle.role_graph.proofs.CountLemmas.{stands_from_times, times_both, times_filter, times_from_stands}
use Rattle.role_graph.proofs.GroupRows.{InGroup, in_group}
use Rattle.role_graph.proofs.WalkLemmas.{group_link, row_link}

-- ---- users that an edit names

or_true : (a b : Bool) → (a ≡ true) ⊎ (b ≡ true) → (a || b) ≡ true
or_true true b which = refl
or_true false b (inl is) = absurd (false≢true is)
or_true false b (inr is) = is

-- the user of a group is named
user_named : (groups : List Group) (at : ℕ) (user : List ℕ) → at < length groups → user ≡ (get_or groups at no_group).user → has_user user groups ≡ true
user_named [] at user within is = absurd (omega arith)
user_named (group ∷ groups) zero user within is = or_true (bytes_eq user group.user) (has_user user groups) (inl ((bytes_eq-Decides user group.user).1 is))
user_named (group ∷ groups) (suc at) user within is = or_true (bytes_eq user group.user) (has_user user groups) (inr (user_named groups at user (omega arith) is))

-- and one that is named is the user of a group
named_user : (groups : List Group) (user : List ℕ) → has_user user groups ≡ true → (group : Group) × Contains groups group × (user ≡ group.user)
named_user [] user none = absurd (false≢true none)
named_user (group ∷ groups) user is = by (bytes_eq user group.user) refl is (named_user groups user)
  where
    by : (test : Bool) → bytes_eq user group.user ≡ test → (test || has_user user groups) ≡ true → (has_user user groups ≡ true → (other : Group) × Contains groups other × (user ≡ other.user)) → (other : Group) × Contains (group ∷ groups) other × (user ≡ other.user)
    by true same here more = (group, stands_here group groups, (bytes_eq-Decides user group.user).0 same)
    by false differ behind more = let found = more behind in (found.0, stands_behind group groups found.0 found.1, found.2)

-- a row of a user that is not named stands as often after the edit
no_rows : (changed : List Group) (one : Fields) → has_user (user_of one) changed ≡ false → times one (rows_of changed) ≡ 0
no_rows changed one none = by (cases_lt 0 (times one (rows_of changed)))
  where
    found : InGroup changed one → ⊥
    found group = false≢true (sym none ∙ user_named changed group.at (user_of one) group.within (ap user_of group.is))

    by : (0 < times one (rows_of changed)) ⊎ (times one (rows_of changed) ≤ 0) → times one (rows_of changed) ≡ 0
    by (inl some) = absurd (found (in_group changed one (stands_from_times one (rows_of changed) (omega arith))))
    by (inr few) = omega arith

pub as_often : (changed : List Group) (rows others : List Fields) (one : Fields) → ((r : Fields) → times r others ≡ times r (after changed rows)) → has_user (user_of one) changed ≡ false → times one others ≡ times one rows
as_often changed rows others one alike none =
    let parts : times one (after changed rows) ≡ times one (filter (λ (r : Fields). not (has_user (user_of r) changed)) rows) + times one (rows_of changed) = times_both one (filter (λ (r : Fields). not (has_user (user_of r) changed)) rows) (rows_of changed) in
    let stay : times one (filter (λ (r : Fields). not (has_user (user_of r) changed)) rows) ≡ times one rows = times_filter (λ (r : Fields). not (has_user (user_of r) changed)) one rows ∙ ap (λ (t : Bool). cond (not t) (times one rows) 0) none in
    omega (arith, alike one, parts, stay, no_rows changed one none)

-- ---- links of nodes that are not touched

-- a link by rows that stand as well in another graph is a link there
pub link_kept : (old new : Linked) (x y : List ℕ) → new.names ≡ old.names → ((one : Fields) → Fits old.names x (user_of one) → Contains (rows_of old.groups) one → Contains (rows_of new.groups) one) → IsLink old x y → IsLink new x y
link_kept old new x y names stays link =
    let here : SomeLink (shape_of old.names) (rows_of old.groups) None x (λ role. role ≡ y) = row_link old x y link.at link.fits link.stands in
    group_link new x y (record {
      row = here.row;
      stands = stays here.row here.fits here.stands;
      fits = subst (λ (fit : _). Fits fit x (user_of here.row)) (sym names) here.fits;
      counts = tt;
      holds = here.holds;
    })

-- what an edit, made in a graph whose distances are kept, touches
pub record IsTouching (changed : List Group) (old new : Linked) (names : List (List ℕ)) (touched : List Bool) : Type 0 where
  pub same : new.names ≡ old.names
  pub rows : (one : Fields) → times one (rows_of new.groups) ≡ times one (after changed (rows_of old.groups))
  pub few : length names ≤ most_nodes
  pub fitting : (a : ℕ) (group : Group) → a < most_nodes → a < length names → Contains changed group → Fits new.names (name_at names a) group.user → IsMarked touched a

module _ (changed : List Group) (old new : Linked) (names : List (List ℕ)) (touched : List Bool) (is : IsTouching changed old new names touched) where
  -- no row of an untouched node is changed
  untouched : (a : ℕ) (one : Fields) → a < length names → (¬ IsMarked touched a) → Fits new.names (name_at names a) (user_of one) → times one (rows_of new.groups) ≡ times one (rows_of old.groups)
  untouched a one within none fits = as_often changed (rows_of old.groups) (rows_of new.groups) one is.rows (by (cases_Bool (has_user (user_of one) changed)))
    where
      by : (has_user (user_of one) changed ≡ true) ⊎ (has_user (user_of one) changed ≡ false) → has_user (user_of one) changed ≡ false
      by (inl named) =
          let found = named_user changed (user_of one) named in
          absurd (none (is.fitting a found.0 (omega (arith, is.few)) within found.1 (subst (Fits new.names (name_at names a)) found.2 fits)))
      by (inr other) = other

  pub link_stays : (a : ℕ) (y : List ℕ) → a < length names → (¬ IsMarked touched a) → IsLink old (name_at names a) y → IsLink new (name_at names a) y
  link_stays a y within none link =
      link_kept old new (name_at names a) y is.same
      (λ one fits stands. stands_from_times one (rows_of new.groups)
      (subst (λ (n : ℕ). 1 ≤ n) (sym (untouched a one within none (subst (λ (fit : _). Fits fit (name_at names a) (user_of one)) (sym is.same) fits))) (times_from_stands one (rows_of old.groups) stands))) link

  pub link_stood : (a : ℕ) (y : List ℕ) → a < length names → (¬ IsMarked touched a) → IsLink new (name_at names a) y → IsLink old (name_at names a) y
  link_stood a y within none link =
      link_kept new old (name_at names a) y (sym is.same)
      (λ one fits stands. stands_from_times one (rows_of old.groups) (subst (λ (n : ℕ). 1 ≤ n) (untouched a one within none fits) (times_from_stands one (rows_of new.groups) stands))) link

-- the role of a link is a role of the graph
pub link_role : (linked : Linked) (x y : List ℕ) → IsLink linked x y → Contains (map role_of (rows_of linked.groups)) y
link_role linked x y link =
    let here : SomeLink (shape_of linked.names) (rows_of linked.groups) None x (λ role. role ≡ y) = row_link linked x y link.at link.fits link.stands in
    subst (Contains (map role_of (rows_of linked.groups))) here.holds (map_stands role_of (rows_of linked.groups) here.row here.stands)

-- ---- before the square follows

pub before_from : (changed : List Group) (old new : Linked) (known names more : List (List ℕ)) (touched : List Bool) (cells : List (List ℕ)) → IsTouching changed old new names touched → names ≡ known ++ more → IsDistinct bytes_eq names → AreNodes old known → IsExact old known cells
    → ((a : ℕ) → length cells ≤ a → a < most_nodes → IsMarked touched a) → IsBefore new names touched cells
before_from changed old new known names more touched cells is joined once nodes exact fresh = record {
  closed = closed_from old known cells nodes exact;
  long = omega (arith, exact.long, longer);
  fresh = λ a past within. fresh a past (omega (arith, is.few));
  sound = λ a b none near. sound a b none near (near_told old known cells a b nodes.once exact near);
  whole = λ a b first second none link. whole a b first second none link (node_of known (name_at names b) (nodes.all (name_at names b) (link_role old (name_at names a) (name_at names b) (link_stood changed old new names touched is a (name_at names b) (here a first) none link))));
}
  where
    longer : length names ≡ length known + length more
    longer = ap (λ (l : List (List ℕ)). length l) joined ∙ length-append known more

    here : (a : ℕ) → a < length cells → a < length names
    here a within = omega (arith, exact.long, longer)

    same_name : (a : ℕ) → a < length known → name_at names a ≡ name_at known a
    same_name a within = ap (λ (l : List (List ℕ)). name_at l a) joined ∙ get_or_append_left known more [] a within

    sound : (a b : ℕ) → (¬ IsMarked touched a) → IsNear cells a b → (a ≡ b) ⊎ IsNodeLink old known a b → (a ≡ b) ⊎ IsNodeLink new names a b
    sound a b none near (inl same) = inl same
    sound a b none near (inr link) =
        inr (link_stays changed old new names touched is a (name_at names b) (here a near.first) none
        (subst (λ (x : List ℕ). IsLink old x (name_at names b)) (sym (same_name a (omega (arith, near.first, exact.long))))
        (subst (IsLink old (name_at known a)) (sym (same_name b (omega (arith, near.second, exact.long)))) link)))

    whole : (a b : ℕ) → a < length cells → b < length names → (¬ IsMarked touched a) → IsNodeLink new names a b → (c : ℕ) × (c < length known) × (name_at known c ≡ name_at names b) → IsNear cells a b
    whole a b first second none link (c, within, is_name) =
        let same : c ≡ b = one_node names c b once (omega (arith, longer)) second (same_name c within ∙ is_name) in
        let stood : IsLink old (name_at names a) (name_at names b) = link_stood changed old new names touched is a (name_at names b) (here a first) none link in
        subst (IsNear cells a) same
        (link_near old known cells a c exact (omega (arith, first, exact.long)) within
        (subst (λ (x : List ℕ). IsLink old x (name_at known c)) (same_name a (omega (arith, first, exact.long))) (subst (IsLink old (name_at names a)) (sym is_name) stood)))
