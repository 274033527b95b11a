-- Marks of the nodes to which a node is linked.
use Rattle.std.proofs.Common.{◌≡◌, ◌⊎◌, inl, inr, ◌<◌, ◌≤◌, ◌+◌, ℕ, Bool, true, false, List, [], ◌∷◌, ◌++◌, length, get_or, set, sym, ap, subst, ◌∙◌, arith, get_or-set_other}
use Rattle.std.specs.Prelude.{◌↔◌}
use Rattle.std.specs.List.{Contains, IsDistinct}
use Rattle.std.specs.Str.{bytes_eq}
use Rattle.std.proofs.lemmas.Bool.{cases_eq, cases_lt}
use Rattle.std.proofs.lemmas.List.Elements.{Contains-append_left, Contains-push, Contains-push_cases}
use Rattle.dist_rows.specs.Squares.{most_nodes}
use Rattle.role_meaning.proofs.CallerLemmas.{stands_nowhere}
use Rattle.role_graph.specs.Helps.Squares.{IsMarked, IsNodeLink, name_at}
use Rattle.role_graph.specs.Helps.Walks.{FitsAt, IsRoleAt, Linked, no_group}
use Rattle.role_graph.proofs.BridgeLemmas.{one_node}
use Rattle.role_graph.proofs.LinkedLemmas.{named_nowhere}
use Rattle.role_graph.proofs.Marked.{mark_here, mark_stays}
use Rattle.role_graph.proofs.PickLemmas.{MarksAlso, also_both, also_none}

-- ---- the node of a name

pub named_marked : (nodes : List (List ℕ)) (name : List ℕ) (node : ℕ) (marks : List Bool) (b : ℕ) → IsDistinct bytes_eq nodes → node < length nodes → name_at nodes node ≡ name → node < length marks → b < length nodes → MarksAlso (λ k. name_at nodes k ≡ name) marks (set marks node true) b
named_marked nodes name node marks b once there is within inside = (λ marked. by marked (cases_eq b node), λ which. from which)
  where
    by : IsMarked (set marks node true) b → (b ≡ node) ⊎ (b ≡ node → ⊥) → IsMarked marks b ⊎ (name_at nodes b ≡ name)
    by marked (inl same) = inr (ap (λ (n : ℕ). name_at nodes n) same ∙ is)
    by marked (inr differ) = inl (sym (get_or-set_other marks node b true false differ) ∙ marked)

    from : IsMarked marks b ⊎ (name_at nodes b ≡ name) → IsMarked (set marks node true) b
    from (inl marked) = mark_stays marks node b within marked
    from (inr same) = subst (IsMarked (set marks node true)) (sym (one_node nodes b node once inside there (same ∙ sym is))) (mark_here marks node within)

-- a node behind the last that may be marked
pub named_far : (nodes : List (List ℕ)) (name : List ℕ) (node : ℕ) (marks : List Bool) (b : ℕ) → IsDistinct bytes_eq nodes → node < length nodes → name_at nodes node ≡ name → most_nodes ≤ node → b < most_nodes → b < length nodes → MarksAlso (λ k. name_at nodes k ≡ name) marks marks b
named_far nodes name node marks b once there is past low inside =
    also_none (λ k. name_at nodes k ≡ name) marks b (λ same. absurd (let e : b ≡ node = one_node nodes b node once inside there (same ∙ sym is) in omega (arith, e, past, low)))

-- a name that is no node
pub named_not : (nodes : List (List ℕ)) (name : List ℕ) (marks : List Bool) (b : ℕ) → (Contains nodes name → ⊥) → b < length nodes → MarksAlso (λ k. name_at nodes k ≡ name) marks marks b
named_not nodes name marks b none inside = also_none (λ k. name_at nodes k ≡ name) marks b (λ same. named_nowhere nodes name b none inside same)

-- ---- the nodes of names

pub names_none : (nodes : List (List ℕ)) (marks : List Bool) (b : ℕ) → MarksAlso (λ k. Contains [] (name_at nodes k)) marks marks b
names_none nodes marks b = also_none (λ k. Contains [] (name_at nodes k)) marks b (λ stands. stands_nowhere (name_at nodes b) stands)

pub names_more : (nodes taken : List (List ℕ)) (name : List ℕ) (old mid new : List Bool) (b : ℕ) → MarksAlso (λ k. Contains taken (name_at nodes k)) old mid b → MarksAlso (λ k. name_at nodes k ≡ name) mid new b → MarksAlso (λ k. Contains (taken ++ name ∷ []) (name_at nodes k)) old new b
names_more nodes taken name old mid new b = also_both (λ k. Contains taken (name_at nodes k)) (λ k. name_at nodes k ≡ name) (λ k. Contains (taken ++ name ∷ []) (name_at nodes k)) old mid new b there back
  where
    there : Contains taken (name_at nodes b) ⊎ (name_at nodes b ≡ name) → Contains (taken ++ name ∷ []) (name_at nodes b)
    there (inl stands) = Contains-append_left taken (name ∷ []) (name_at nodes b) stands
    there (inr same) = subst (Contains (taken ++ name ∷ [])) (sym same) (Contains-push taken name)

    by : Contains taken (name_at nodes b) ⊎ (name ≡ name_at nodes b) → Contains taken (name_at nodes b) ⊎ (name_at nodes b ≡ name)
    by (inl stands) = inl stands
    by (inr same) = inr (sym same)

    back : Contains (taken ++ name ∷ []) (name_at nodes b) → Contains taken (name_at nodes b) ⊎ (name_at nodes b ≡ name)
    back stands = by (Contains-push_cases taken name (name_at nodes b) stands)

-- ---- the nodes that the rows of groups link

-- a row of a group before a place links the name of the one node to that of the other
pub record LinksBefore (linked : Linked) (names : List (List ℕ)) (node upto b : ℕ) : Type 0 where
  pub at : ℕ
  pub before : at < upto
  pub fits : FitsAt linked (name_at names node) at
  pub stands : IsRoleAt linked (name_at names b) at

-- just the nodes are marked to which one of these rows links the node
pub record AreLinkedBefore (linked : Linked) (names : List (List ℕ)) (node upto : ℕ) (marks : List Bool) : Type 0 where
  pub each : (b : ℕ) → b < most_nodes → b < length names → IsMarked marks b ↔ LinksBefore linked names node upto b

pub links_none : (linked : Linked) (names : List (List ℕ)) (node : ℕ) (marks : List Bool) → ((b : ℕ) → IsMarked marks b → ⊥) → AreLinkedBefore linked names node 0 marks
links_none linked names node marks none = record { each = λ b low within. (λ marked. absurd (none b marked), λ link. absurd (let early = link.before in omega (arith, early))) }

pub links_more : (linked : Linked) (names : List (List ℕ)) (node place at : ℕ) (marks new : List Bool) (roles : List (List ℕ)) → roles ≡ (get_or linked.groups at no_group).roles → FitsAt linked (name_at names node) at → place ≤ at
    → ((other : ℕ) → place ≤ other → other < at → FitsAt linked (name_at names node) other → ⊥) → ((b : ℕ) → b < most_nodes → b < length names → MarksAlso (λ k. Contains roles (name_at names k)) marks new b) → AreLinkedBefore linked names node place marks → AreLinkedBefore linked names node (at + 1) new
links_more linked names node place at marks new roles is fits past between also before = record {
  each = λ b low within. (
    λ marked. to b (before.each b low within).0 ((also b low within).0 marked),
    λ link. (also b low within).1 (from b link (before.each b low within).1 (cases_eq link.at at) (cases_lt link.at place)),
  );
}
  where
    to : (b : ℕ) → (IsMarked marks b → LinksBefore linked names node place b) → IsMarked marks b ⊎ Contains roles (name_at names b) → LinksBefore linked names node (at + 1) b
    to b early (inl marked) = let link = early marked in record { at = link.at; before = let less = link.before in omega (arith, less, past); fits = link.fits; stands = link.stands }
    to b early (inr stands) = record {
      at = at;
      before = omega arith;
      fits = fits;
      stands = record { within = fits.within; stands = subst (λ (l : List (List ℕ)). Contains l (name_at names b)) is stands };
    }

    from : (b : ℕ) → (link : LinksBefore linked names node (at + 1) b) → (LinksBefore linked names node place b → IsMarked marks b) → (link.at ≡ at) ⊎ (link.at ≡ at → ⊥) → (link.at < place) ⊎ (place ≤ link.at) → IsMarked marks b ⊎ Contains roles (name_at names b)
    from b link early (inl same) which = inr (subst (λ (l : List (List ℕ)). Contains l (name_at names b)) (ap (λ (n : ℕ). (get_or linked.groups n no_group).roles) same ∙ sym is) link.stands.stands)
    from b link early (inr differ) (inl less) = inl (early (record { at = link.at; before = less; fits = link.fits; stands = link.stands }))
    from b link early (inr differ) (inr more) = absurd (between link.at more (let less = link.before in omega (arith, less, differ)) link.fits)

pub links_all : (linked : Linked) (names : List (List ℕ)) (node place : ℕ) (marks : List Bool) → ((other : ℕ) → place ≤ other → FitsAt linked (name_at names node) other → ⊥) → AreLinkedBefore linked names node place marks → (b : ℕ) → b < most_nodes → b < length names → IsMarked marks b ↔ IsNodeLink linked names node b
links_all linked names node place marks none before b low within = (λ marked. to ((before.each b low within).0 marked), λ link. (before.each b low within).1 (from link (cases_lt link.at place)))
  where
    to : LinksBefore linked names node place b → IsNodeLink linked names node b
    to link = record { at = link.at; fits = link.fits; stands = link.stands }

    from : (link : IsNodeLink linked names node b) → (link.at < place) ⊎ (place ≤ link.at) → LinksBefore linked names node place b
    from link (inl less) = record { at = link.at; before = less; fits = link.fits; stands = link.stands }
    from link (inr more) = absurd (none link.at more link.fits)
