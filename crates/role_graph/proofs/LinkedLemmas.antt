-- Links that are put into a square until it is that of the graph.
use Rattle.std.proofs.Common.{◌≡◌, ◌⊎◌, inl, inr, ◌<◌, ◌≤◌, ◌+◌, ℕ, Bool, List, [], ◌∷◌, ◌++◌, length, get_or, refl, sym, ap, subst, ◌∙◌, arith}
use Rattle.std.specs.List.{Contains, IsDistinct}
use Rattle.std.specs.Str.{bytes_eq}
use Rattle.std.proofs.lemmas.Bool.{cases_eq, cases_lt}
use Rattle.std.proofs.lemmas.List.Elements.{Contains-get_or, Contains-push_cases}
use Rattle.dist_rows.specs.Squares.{most_nodes}
use Rattle.role_meaning.proofs.CallerLemmas.{stands_nowhere}
use Rattle.role_graph.specs.Helps.Squares.{Grows, IsBegun, IsClosed, IsLinking, IsMarked, IsNear, IsNodeLink, name_at}
use Rattle.role_graph.specs.Helps.Walks.{FitsAt, IsRoleAt, Linked, no_group}
use Rattle.role_graph.proofs.BridgeLemmas.{one_node}
use Rattle.role_graph.proofs.Closed.{grows_both, grows_none, grows_weaker}

-- ---- where the square begins

-- it is cleared, and all nodes are touched
pub begun_anew : (linked : Linked) (names : List (List ℕ)) (touched : List Bool) (cells : List (List ℕ)) → ((a : ℕ) → a < most_nodes → IsMarked touched a) → length names ≤ most_nodes → length cells ≤ length names → IsClosed cells → ((a b : ℕ) → IsNear cells a b → a ≡ b) → IsBegun linked names touched cells
begun_anew linked names touched cells marked few long closed alone = record {
  closed = closed;
  long = long;
  fresh = λ a past within. marked a (omega (arith, few));
  sound = λ a b near. inl (alone a b near);
  whole = λ a b first second none link. absurd (none (marked a (omega (arith, few, long))));
}

-- ---- node by node

pub linking_begins : (linked : Linked) (names : List (List ℕ)) (touched : List Bool) (old new : List (List ℕ)) → IsBegun linked names touched old → Grows (λ a b. a ≡ b) old new → length new ≡ length names → IsLinking linked names touched 0 new
linking_begins linked names touched old new begun grows long = record {
  closed = grows.closed;
  long = long;
  sound = λ a b near. sound a b (grows.only a b near);
  whole = λ a b first second which link. whole a b first second which link (cases_lt a (length old));
}
  where
    sound : (a b : ℕ) → IsNear old a b ⊎ (a ≡ b) → (a ≡ b) ⊎ IsNodeLink linked names a b
    sound a b (inl near) = begun.sound a b near
    sound a b (inr same) = inl same

    whole : (a b : ℕ) → a < length names → b < length names → (¬ IsMarked touched a) ⊎ (a < 0) → IsNodeLink linked names a b → (a < length old) ⊎ (length old ≤ a) → IsNear new a b
    whole a b first second (inr low) link which = absurd (omega arith)
    whole a b first second (inl none) link (inl within) = grows.keeps a b (begun.whole a b within second none link)
    whole a b first second (inl none) link (inr past) = absurd (none (begun.fresh a past first))

-- a node that is not touched
pub linking_skips : (linked : Linked) (names : List (List ℕ)) (touched : List Bool) (upto : ℕ) (cells : List (List ℕ)) → (¬ IsMarked touched upto) → IsLinking linked names touched upto cells → IsLinking linked names touched (upto + 1) cells
linking_skips linked names touched upto cells none linking = record {
  closed = linking.closed;
  long = linking.long;
  sound = linking.sound;
  whole = λ a b first second which link. linking.whole a b first second (by a which (cases_eq a upto)) link;
}
  where
    by : (a : ℕ) → (¬ IsMarked touched a) ⊎ (a < upto + 1) → (a ≡ upto) ⊎ (¬ (a ≡ upto)) → (¬ IsMarked touched a) ⊎ (a < upto)
    by a (inl untouched) which = inl untouched
    by a (inr low) (inl same) = inl (λ marked. none (subst (IsMarked touched) same marked))
    by a (inr low) (inr differ) = inr (omega arith)

-- and one whose links are put in
pub linking_more : (linked : Linked) (names : List (List ℕ)) (touched : List Bool) (upto : ℕ) (old new : List (List ℕ)) → length new ≡ length old → Grows (λ a b. (a ≡ upto) × IsNodeLink linked names a b) old new → ((b : ℕ) → b < length names → IsNodeLink linked names upto b → IsNear new upto b) → IsLinking linked names touched upto old → IsLinking linked names touched (upto + 1) new
linking_more linked names touched upto old new long grows there linking = record {
  closed = grows.closed;
  long = long ∙ linking.long;
  sound = λ a b near. sound a b (grows.only a b near);
  whole = λ a b first second which link. whole a b first second which link (cases_eq a upto);
}
  where
    sound : (a b : ℕ) → IsNear old a b ⊎ ((a ≡ upto) × IsNodeLink linked names a b) → (a ≡ b) ⊎ IsNodeLink linked names a b
    sound a b (inl near) = linking.sound a b near
    sound a b (inr (here, link)) = inr link

    whole : (a b : ℕ) → a < length names → b < length names → (¬ IsMarked touched a) ⊎ (a < upto + 1) → IsNodeLink linked names a b → (a ≡ upto) ⊎ (¬ (a ≡ upto)) → IsNear new a b
    whole a b first second which link (inl same) =
        subst (λ (n : ℕ). IsNear new n b) (sym same) (there b second (subst (λ (n : ℕ). IsNodeLink linked names n b) same link))
    whole a b first second (inl none) link (inr differ) = grows.keeps a b (linking.whole a b first second (inl none) link)
    whole a b first second (inr low) link (inr differ) = grows.keeps a b (linking.whole a b first second (inr (omega arith)) link)

-- ---- the links of one node

-- the links of a node by the groups before `upto` are in
pub record HasLinked (linked : Linked) (names : List (List ℕ)) (node upto : ℕ) (old now : List (List ℕ)) : Type 0 where
  pub long : length now ≡ length old
  pub grows : Grows (λ a b. (a ≡ node) × IsNodeLink linked names a b) old now
  pub whole : (b at : ℕ) → b < length names → at < upto → FitsAt linked (name_at names node) at → IsRoleAt linked (name_at names b) at → IsNear now node b

pub has_linked_none : (linked : Linked) (names : List (List ℕ)) (node : ℕ) (cells : List (List ℕ)) → IsClosed cells → HasLinked linked names node 0 cells cells
has_linked_none linked names node cells closed = record {
  long = refl;
  grows = grows_none (λ a b. (a ≡ node) × IsNodeLink linked names a b) cells closed;
  whole = λ b at within low. absurd (omega arith);
}

pub has_linked_more : (linked : Linked) (names : List (List ℕ)) (node place at : ℕ) (old now new : List (List ℕ)) (roles : List (List ℕ)) → roles ≡ (get_or linked.groups at no_group).roles → FitsAt linked (name_at names node) at → ((other : ℕ) → place ≤ other → other < at → FitsAt linked (name_at names node) other → ⊥)
    → length new ≡ length now → Grows (λ a b. (a ≡ node) × Contains roles (name_at names b)) now new → ((b : ℕ) → b < length names → Contains roles (name_at names b) → IsNear new node b)
    → HasLinked linked names node place old now → HasLinked linked names node (at + 1) old new
has_linked_more linked names node place at old now new roles is fits between long grows there has = record {
  long = long ∙ has.long;
  grows = grows_both (λ a b. (a ≡ node) × IsNodeLink linked names a b) old now new has.grows
      (grows_weaker (λ a b. (a ≡ node) × Contains roles (name_at names b)) (λ a b. (a ≡ node) × IsNodeLink linked names a b) now new allowed grows);
  whole = λ b k within low fitting stands. whole b k within low fitting stands (cases_eq k at) (cases_lt k place);
}
  where
    allowed : (a b : ℕ) → (a ≡ node) × Contains roles (name_at names b) → (a ≡ node) × IsNodeLink linked names a b
    allowed a b (here, stands) = (
      here,
      subst (λ (n : ℕ). IsNodeLink linked names n b) (sym here) (record {
        at = at;
        fits = fits;
        stands = record { within = fits.within; stands = subst (λ (l : List (List ℕ)). Contains l (name_at names b)) is stands };
      }),
    )

    whole : (b k : ℕ) → b < length names → k < at + 1 → FitsAt linked (name_at names node) k → IsRoleAt linked (name_at names b) k → (k ≡ at) ⊎ (¬ (k ≡ at)) → (k < place) ⊎ (place ≤ k) → IsNear new node b
    whole b k within low fitting stands (inl same) which =
        there b within (subst (λ (l : List (List ℕ)). Contains l (name_at names b)) (ap (λ (n : ℕ). (get_or linked.groups n no_group).roles) same ∙ sym is) stands.stands)
    whole b k within low fitting stands (inr differ) (inl before) = grows.keeps node b (has.whole b k within before fitting stands)
    whole b k within low fitting stands (inr differ) (inr past) = absurd (between k past (omega arith) fitting)

pub has_linked_all : (linked : Linked) (names : List (List ℕ)) (node place : ℕ) (old now : List (List ℕ)) → ((other : ℕ) → place ≤ other → FitsAt linked (name_at names node) other → ⊥) → HasLinked linked names node place old now → (b : ℕ) → b < length names → IsNodeLink linked names node b → IsNear now node b
has_linked_all linked names node place old now none has b within link = by (cases_lt link.at place)
  where
    by : (link.at < place) ⊎ (place ≤ link.at) → IsNear now node b
    by (inl before) = has.whole b link.at within before link.fits link.stands
    by (inr past) = absurd (none link.at past link.fits)

-- ---- links to some names

-- links from a node to these names are in, all of which are of the whole list
pub record HasNamed (nodes names : List (List ℕ)) (node : ℕ) (taken : List (List ℕ)) (old now : List (List ℕ)) : Type 0 where
  pub long : length now ≡ length old
  pub grows : Grows (λ a b. (a ≡ node) × Contains names (name_at nodes b)) old now
  pub whole : (b : ℕ) → b < length nodes → Contains taken (name_at nodes b) → IsNear now node b

pub has_named_none : (nodes names : List (List ℕ)) (node : ℕ) (cells : List (List ℕ)) → IsClosed cells → HasNamed nodes names node [] cells cells
has_named_none nodes names node cells closed = record {
  long = refl;
  grows = grows_none (λ a b. (a ≡ node) × Contains names (name_at nodes b)) cells closed;
  whole = λ b within none. absurd (stands_nowhere (name_at nodes b) none);
}

pub has_named_more : (nodes names : List (List ℕ)) (node : ℕ) (taken : List (List ℕ)) (name : List ℕ) (old now new : List (List ℕ)) → Contains names name → length new ≡ length now → Grows (λ a b. (a ≡ node) × (name_at nodes b ≡ name)) now new → ((b : ℕ) → b < length nodes → name_at nodes b ≡ name → IsNear new node b) → HasNamed nodes names node taken old now → HasNamed nodes names node (taken ++ name ∷ []) old new
has_named_more nodes names node taken name old now new stands long grows there has = record {
  long = long ∙ has.long;
  grows = grows_both (λ a b. (a ≡ node) × Contains names (name_at nodes b)) old now new has.grows
      (grows_weaker (λ a b. (a ≡ node) × (name_at nodes b ≡ name)) (λ a b. (a ≡ node) × Contains names (name_at nodes b)) now new
      (λ a b allowed. (allowed.0, subst (Contains names) (sym allowed.1) stands)) grows);
  whole = λ b within here. whole b within (Contains-push_cases taken name (name_at nodes b) here);
}
  where
    whole : (b : ℕ) → b < length nodes → Contains taken (name_at nodes b) ⊎ (name ≡ name_at nodes b) → IsNear new node b
    whole b within (inl before) = grows.keeps node b (has.whole b within before)
    whole b within (inr same) = there b within (sym same)

-- a name that is no node
pub named_nowhere : (nodes : List (List ℕ)) (name : List ℕ) (b : ℕ) → (Contains nodes name → ⊥) → b < length nodes → name_at nodes b ≡ name → ⊥
named_nowhere nodes name b none within same = none (subst (Contains nodes) same (Contains-get_or nodes b [] within))

-- the node of a name is the only one
pub named_near : (nodes : List (List ℕ)) (name : List ℕ) (node to b : ℕ) (cells : List (List ℕ)) → IsDistinct bytes_eq nodes → to < length nodes → name_at nodes to ≡ name → IsNear cells node to → b < length nodes → name_at nodes b ≡ name → IsNear cells node b
named_near nodes name node to b cells once there is near within same = subst (IsNear cells node) (one_node nodes to b once there within (is ∙ sym same)) near
