-- Chains of nodes and links of names.
use Rattle.std.proofs.Common.{◌≡◌, ◌≢◌, ◌⊎◌, inl, inr, ◌<◌, ◌≤◌, ℕ, zero, suc, Bool, List, [], None, length, map, refl, sym, ap, subst, ◌∙◌, arith}
use Rattle.std.specs.Prelude.{AllPairs}
use Rattle.std.specs.List.{Contains, IsDistinct}
use Rattle.std.specs.Str.{bytes_eq}
use Rattle.std.proofs.lemmas.Bool.{cases_order}
use Rattle.std.proofs.lemmas.List.{get_or_default}
use Rattle.std.proofs.lemmas.Map.Made.{AllPairs-from_IsDistinct}
use Rattle.std.proofs.lemmas.Slice.Eq.{bytes_eq-Decides}
use Rattle.dist_rows.specs.Squares.{cell_of}
use Rattle.role_meaning.specs.Distances.{farthest}
use Rattle.role_meaning.specs.Links.{Reaches, role_of}
use Rattle.role_meaning.proofs.CallerLemmas.{link_weaker, map_stands, reaches_itself, reaches_more}
use Rattle.role_graph.specs.Graph.{shape_of}
use Rattle.role_graph.specs.Groups.{rows_of}
use Rattle.role_graph.specs.Helps.Squares.{AreNodes, Chain, IsClosed, IsExact, IsLinking, IsNear, IsNodeLink, name_at}
use Rattle.role_graph.specs.Helps.Walks.{IsLink, Linked}
use Rattle.role_graph.proofs.Leasts.{least_alike, least_below}
use Rattle.role_graph.proofs.NameLemmas.{ReachesIn}
use Rattle.role_graph.proofs.WalkLemmas.{group_link, row_link}

-- ---- nodes

-- the node of a name
pub node_of : (names : List (List ℕ)) (name : List ℕ) → Contains names name → (a : ℕ) × (a < length names) × (name_at names a ≡ name)
node_of names name (a, within, same) = (a, within, get_or_default names a [] name within ∙ same)

-- two nodes of one name are one
pub one_node : (names : List (List ℕ)) (a b : ℕ) → IsDistinct bytes_eq names → a < length names → b < length names → name_at names a ≡ name_at names b → a ≡ b
one_node names a b once first second same = by (cases_order a b)
  where
    pairs : AllPairs (λ x y. x ≢ y) names
    pairs = AllPairs-from_IsDistinct bytes_eq-Decides names once

    by : (a ≡ b) ⊎ ((a < b) ⊎ (b < a)) → a ≡ b
    by (inl e) = e
    by (inr (inl less)) = absurd (pairs a b [] less second same)
    by (inr (inr more)) = absurd (pairs b a [] more first (sym same))

-- ---- links

-- the name that is reached by one link and others
pub reaches_link : (linked : Linked) (links : ℕ) (x z y : List ℕ) → IsLink linked x z → ReachesIn linked links z y → ReachesIn linked (suc links) x y
unfolding Reaches
reaches_link linked links x z y link reaches =
    inr (link_weaker (shape_of linked.names) (rows_of linked.groups) None x (λ role. role ≡ z) (λ role. ReachesIn linked links role y)
    (λ role same. subst (λ (name : List ℕ). ReachesIn linked links name y) (sym same) reaches) (row_link linked x z link.at link.fits link.stands))

-- and the other way round
pub reaches_cases : (linked : Linked) (links : ℕ) (x y : List ℕ) → ReachesIn linked (suc links) x y → (x ≡ y) ⊎ ((z : List ℕ) × IsLink linked x z × Contains (map role_of (rows_of linked.groups)) z × ReachesIn linked links z y)
unfolding Reaches
reaches_cases linked links x y (inl same) = inl same
reaches_cases linked links x y (inr link) = inr (
  role_of link.row,
  group_link linked x (role_of link.row) (record { row = link.row; stands = link.stands; fits = link.fits; counts = link.counts; holds = refl }),
  map_stands role_of (rows_of linked.groups) link.row link.stands,
  link.holds,
)

pub reaches_none : (linked : Linked) (x y : List ℕ) → ReachesIn linked 0 x y → x ≡ y
unfolding Reaches
reaches_none linked x y same = same

-- ---- chains and links

-- what a chain reaches is reached, where each of its links is one of the graph
pub to_reaches : (linked : Linked) (names : List (List ℕ)) (Link : ℕ → ℕ → Type 0) (links a b : ℕ) → ((c d : ℕ) → Link c d → (c ≡ d) ⊎ IsNodeLink linked names c d) → Chain Link links a b → ReachesIn linked links (name_at names a) (name_at names b)
unfolding Chain
to_reaches linked names Link zero a b sound same = reaches_itself (shape_of linked.names) (rows_of linked.groups) None 0 (name_at names a) (name_at names b) (ap (name_at names) same)
to_reaches linked names Link (suc links) a b sound (inl same) = reaches_itself (shape_of linked.names) (rows_of linked.groups) None (suc links) (name_at names a) (name_at names b) (ap (name_at names) same)
to_reaches linked names Link (suc links) a b sound (inr (next, link, chain)) = by (sound a next link) (to_reaches linked names Link links next b sound chain)
  where
    by : (a ≡ next) ⊎ IsNodeLink linked names a next → ReachesIn linked links (name_at names next) (name_at names b) → ReachesIn linked (suc links) (name_at names a) (name_at names b)
    by (inl same) reaches =
        reaches_more (shape_of linked.names) (rows_of linked.groups) None links (suc links) (name_at names a) (name_at names b) (omega arith)
        (subst (λ (n : ℕ). ReachesIn linked links (name_at names n) (name_at names b)) (sym same) reaches)
    by (inr on) reaches = reaches_link linked links (name_at names a) (name_at names next) (name_at names b) on reaches

-- what is reached is reached by a chain, where each link of the graph is one of its links
pub to_chain : (linked : Linked) (names : List (List ℕ)) (Link : ℕ → ℕ → Type 0) (links a b : ℕ) → AreNodes linked names → ((c d : ℕ) → c < length names → d < length names → IsNodeLink linked names c d → Link c d) → a < length names → b < length names → ReachesIn linked links (name_at names a) (name_at names b) → Chain Link links a b
unfolding Chain
to_chain linked names Link zero a b nodes whole first second reaches = one_node names a b nodes.once first second (reaches_none linked (name_at names a) (name_at names b) reaches)
to_chain linked names Link (suc links) a b nodes whole first second reaches = by (reaches_cases linked links (name_at names a) (name_at names b) reaches) (λ next. to_chain linked names Link links next b nodes whole)
  where
    on : (z : List ℕ) → IsLink linked (name_at names a) z → (next : ℕ) × (next < length names) × (name_at names next ≡ z) → ReachesIn linked links z (name_at names b) → ((n : ℕ) → n < length names → b < length names → ReachesIn linked links (name_at names n) (name_at names b) → Chain Link links n b) → Chain Link (suc links) a b
    on z link (next, within, is) rest more =
        inr (next, whole a next first within (subst (IsLink linked (name_at names a)) (sym is) link), more next within second (subst (λ (name : List ℕ). ReachesIn linked links name (name_at names b)) (sym is) rest))

    by : (name_at names a ≡ name_at names b) ⊎ ((z : List ℕ) × IsLink linked (name_at names a) z × Contains (map role_of (rows_of linked.groups)) z × ReachesIn linked links z (name_at names b)) → ((n : ℕ) → n < length names → b < length names → ReachesIn linked links (name_at names n) (name_at names b) → Chain Link links n b) → Chain Link (suc links) a b
    by (inl same) more = inl (one_node names a b nodes.once first second same)
    by (inr (z, link, stands, rest)) more = on z link (node_of names z (nodes.all z stands)) rest more

-- ---- squares of a graph

-- where all links are in, the square is that of the graph
pub exact_from : (linked : Linked) (names : List (List ℕ)) (touched : List Bool) (upto : ℕ) (cells : List (List ℕ)) → AreNodes linked names → length names ≤ upto → IsLinking linked names touched upto cells → IsExact linked names cells
exact_from linked names touched upto cells nodes every linking = record {
  long = linking.long;
  square = linking.closed.square;
  far = λ a b first second.
      least_alike farthest (λ links. Chain (IsNear cells) links a b) (λ links. ReachesIn linked links (name_at names a) (name_at names b)) (cell_of cells a b)
      (λ links chain. to_reaches linked names (IsNear cells) links a b linking.sound chain)
      (λ links reaches. to_chain linked names (IsNear cells) links a b nodes (λ c d low within link. linking.whole c d low within (inr (omega (arith, every))) link) first second reaches)
      (linking.closed.least a b (omega (arith, linking.long)) (omega (arith, linking.long)));
}

-- what is near in the square of a graph is linked, and the other way round
pub near_told : (linked : Linked) (names : List (List ℕ)) (cells : List (List ℕ)) (a b : ℕ) → IsDistinct bytes_eq names → IsExact linked names cells → IsNear cells a b → (a ≡ b) ⊎ IsNodeLink linked names a b
near_told linked names cells a b once exact near = by (reaches_cases linked 0 (name_at names a) (name_at names b) here)
  where
    first : a < length names
    first = omega (arith, near.first, exact.long)

    second : b < length names
    second = omega (arith, near.second, exact.long)

    here : ReachesIn linked 1 (name_at names a) (name_at names b)
    here = reaches_more (shape_of linked.names) (rows_of linked.groups) None (cell_of cells a b) 1 (name_at names a) (name_at names b) near.near ((exact.far a b first second).holds (omega (arith, near.near)))

    by : (name_at names a ≡ name_at names b) ⊎ ((z : List ℕ) × IsLink linked (name_at names a) z × Contains (map role_of (rows_of linked.groups)) z × ReachesIn linked 0 z (name_at names b)) → (a ≡ b) ⊎ IsNodeLink linked names a b
    by (inl same) = inl (one_node names a b once first second same)
    by (inr (z, link, stands, last)) = inr (subst (IsLink linked (name_at names a)) (reaches_none linked z (name_at names b) last) link)

pub link_near : (linked : Linked) (names : List (List ℕ)) (cells : List (List ℕ)) (a b : ℕ) → IsExact linked names cells → a < length names → b < length names → IsNodeLink linked names a b → IsNear cells a b
link_near linked names cells a b exact first second link = record {
  first = omega (arith, exact.long);
  second = omega (arith, exact.long);
  near = least_below farthest (λ links. ReachesIn linked links (name_at names a) (name_at names b)) (cell_of cells a b) 1 (exact.far a b first second)
      (reaches_link linked 0 (name_at names a) (name_at names b) (name_at names b) link (reaches_itself (shape_of linked.names) (rows_of linked.groups) None 0 (name_at names b) (name_at names b) refl));
}

-- the square of a graph is closed
pub closed_from : (linked : Linked) (names : List (List ℕ)) (cells : List (List ℕ)) → AreNodes linked names → IsExact linked names cells → IsClosed cells
closed_from linked names cells nodes exact = record {
  square = exact.square;
  least = λ a b first second.
      least_alike farthest (λ links. ReachesIn linked links (name_at names a) (name_at names b)) (λ links. Chain (IsNear cells) links a b) (cell_of cells a b)
      (λ links reaches. to_chain linked names (IsNear cells) links a b nodes (λ c d low within link. link_near linked names cells c d exact low within link) (omega (arith, exact.long)) (omega (arith, exact.long)) reaches)
      (λ links chain. to_reaches linked names (IsNear cells) links a b (λ c d near. near_told linked names cells c d nodes.once exact near) chain)
      (exact.far a b (omega (arith, exact.long)) (omega (arith, exact.long)));
}
