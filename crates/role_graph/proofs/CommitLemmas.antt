-- A graph when an edit is made in it: its roles as nodes, and its square before it follows.
use Rattle.std.proofs.Common.{◌≡◌, ◌⊎◌, inl, inr, ◌<◌, ◌≤◌, ◌+◌, ℕ, Bool, true, false, cond, IsTrue, List, [], ◌∷◌, ◌++◌, Option, None, Some, length, map, refl, sym, ap, subst, ◌∙◌, arith}
use Rattle.std.specs.Prelude.{◌==◌, IsSome, unwrap_or}
use Rattle.std.specs.List.{Contains, IsDistinct, count_by}
use Rattle.std.specs.Map.{keys_of, lookup}
use Rattle.std.specs.Str.{bytes_eq}
use Rattle.std.proofs.lemmas.Bool.{cases_Bool, cases_lt, eqb-true}
use Rattle.std.proofs.lemmas.Cmp.{nat_list_eq_equiv}
use Rattle.std.proofs.lemmas.List.Sums.{sum_by-cons}
use Rattle.std.proofs.lemmas.Map.Views.{IsSome-lookup_from_Contains}
use Rattle.dist_rows.specs.Squares.{most_nodes}
use Rattle.role_meaning.specs.Links.{role_of}
use Rattle.role_meaning.proofs.CallerLemmas.{stands_behind, stands_here}
use Rattle.role_graph.specs.Groups.{Group, rows_of, rows_with}
use Rattle.role_graph.specs.Helps.Roles.{Counted, HasNoZero, count_of, nodes_of, number_in}
use Rattle.role_graph.specs.Helps.Squares.{AreNodes, IsBefore, IsExact, IsMarked}
use Rattle.role_graph.specs.Helps.Walks.{Linked}
use Rattle.role_graph.proofs.EditLemmas.{once}
use Rattle.role_graph.proofs.FollowLemmas.{IsTouching, before_from}
use Rattle.role_graph.proofs.GatherLemmas.{counted_some}
use Rattle.role_graph.proofs.PutLemmas.{same_text}

-- ---- the roles of rows as nodes

-- a role that is counted is a key
pub key_there : (entries : List (List ℕ × ℕ)) (role : List ℕ) → 1 ≤ number_in entries role → Contains (keys_of entries) role
key_there [] role some = absurd (omega arith)
key_there (entry ∷ entries) role some = by (bytes_eq role entry.0) refl some (key_there entries role)
  where
    by : (test : Bool) → bytes_eq role entry.0 ≡ test → 1 ≤ unwrap_or (cond test (Some entry.1) (lookup (bytes_eq role) entries)) 0 → (1 ≤ number_in entries role → Contains (keys_of entries) role) → Contains (entry.0 ∷ keys_of entries) role
    by true is here more = subst (Contains (entry.0 ∷ keys_of entries)) (sym (same_text role entry.0 is)) (stands_here entry.0 (keys_of entries))
    by false is behind more = stands_behind entry.0 (keys_of entries) role (more behind)

-- and a key is counted
pub key_counted : (entries : List (List ℕ × ℕ)) (role : List ℕ) → HasNoZero entries → Contains (keys_of entries) role → 1 ≤ number_in entries role
key_counted entries role some stands = by (lookup (bytes_eq role) entries) refl (IsSome-lookup_from_Contains nat_list_eq_equiv role entries stands)
  where
    number : (count : ℕ) → lookup (bytes_eq role) entries ≡ Some count → (count < 1) ⊎ (1 ≤ count) → 1 ≤ count
    number count is (inl low) = absurd (some role (is ∙ ap (λ (n : ℕ). Some n) (let e : count ≡ 0 = omega arith in e)))
    number count is (inr high) = high

    by : (there : Option ℕ) → lookup (bytes_eq role) entries ≡ there → IsSome there → 1 ≤ number_in entries role
    by None is none = absurd cc
    by (Some count) is there = subst (λ (o : Option ℕ). 1 ≤ unwrap_or o 0) (sym is) (number count is (cases_lt count 1))

-- a text that is counted stands
pub counted_stands : (y : List ℕ) (xs : List (List ℕ)) → 1 ≤ count_by (bytes_eq y) xs → Contains xs y
counted_stands y [] some = absurd (omega arith)
counted_stands y (x ∷ xs) some = by (cases_Bool (bytes_eq y x)) (counted_stands y xs)
  where
    first : count_by (bytes_eq y) (x ∷ xs) ≡ once (bytes_eq y x) + count_by (bytes_eq y) xs
    first = sum_by-cons (λ (r : List ℕ). once (bytes_eq y r)) x xs

    by : (bytes_eq y x ≡ true) ⊎ (bytes_eq y x ≡ false) → (1 ≤ count_by (bytes_eq y) xs → Contains xs y) → Contains (x ∷ xs) y
    by (inl is) more = subst (Contains (x ∷ xs)) (sym (same_text y x is)) (stands_here x xs)
    by (inr differ) more = stands_behind x xs y (more (let none : once (bytes_eq y x) ≡ 0 = ap once differ in omega (arith, first, none)))

pub nodes_from : (linked : Linked) (roles : Counted) → IsDistinct bytes_eq (nodes_of roles) → HasNoZero roles.entries → ((role : List ℕ) → count_of roles role ≡ rows_with role (rows_of linked.groups)) → AreNodes linked (nodes_of roles)
nodes_from linked roles once some counted = record {
  once = once;
  all = λ role stands. key_there roles.entries role (subst (λ (n : ℕ). 1 ≤ n) (sym (counted role)) (counted_some role (map role_of (rows_of linked.groups)) stands));
  only = λ role stands. counted_stands role (map role_of (rows_of linked.groups)) (subst (λ (n : ℕ). 1 ≤ n) (counted role) (key_counted roles.entries role some stands));
}

-- ---- before the square follows

-- where no role is gone, the nodes keep their places
pub whole_places : (first mid last : List (List ℕ)) (grown now : ℕ) (test : Bool) → ((more : List (List ℕ)) × (mid ≡ first ++ more)) → (last ≡ mid) ⊎ (length last < length mid) → grown ≡ length mid → now ≡ length last → test ≡ (now == grown) → IsTrue test → (more : List (List ℕ)) × (last ≡ first ++ more)
whole_places first mid last grown now test (more, joined) (inl same) one two is holds = (more, same ∙ joined)
whole_places first mid last grown now test (more, joined) (inr less) one two is holds = absurd (let e : now ≡ grown = eqb-true now grown (sym is ∙ holds) in omega (arith, e, one, two))

pub committed_before : (changed : List Group) (old new : Linked) (known names : List (List ℕ)) (touched : List Bool) (cells : List (List ℕ)) → IsTouching changed old new names touched → ((more : List (List ℕ)) × (names ≡ known ++ more)) → IsDistinct bytes_eq names → AreNodes old known → IsExact old known cells
    → ((a : ℕ) → length cells ≤ a → a < most_nodes → IsMarked touched a) → IsBefore new names touched cells
committed_before changed old new known names touched cells is (more, joined) once nodes exact fresh = before_from changed old new known names more touched cells is joined once nodes exact fresh
