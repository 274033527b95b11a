-- How many roles there can be after an edit.
use Rattle.std.proofs.Common.{◌≡◌, ◌⊎◌, inl, inr, ◌≤◌, ◌+◌, ℕ, List, [], ◌++◌, length, map, sym, ◌∙◌, arith, length-append}
use Rattle.std.specs.List.{Contains, IsDistinct}
use Rattle.std.specs.Str.{bytes_eq}
use Rattle.std.proofs.lemmas.Cmp.{nat_list_eq_equiv}
use Rattle.std.proofs.lemmas.List.Elements.{Contains-append_left, Contains-append_right}
use Rattle.std.proofs.lemmas.Map.Made.{length-le_from_is_member}
use Rattle.policy_table.specs.Limits.{different}
use Rattle.policy_table.proofs.CallerLemmas.{among_different, distinct_different}
use Rattle.role_meaning.specs.Links.{role_of}
use Rattle.role_graph.specs.Graph.{role_count}
use Rattle.role_graph.specs.Groups.{rows_of}
use Rattle.role_graph.specs.Helps.Squares.{AreNodes}
use Rattle.role_graph.specs.Helps.Walks.{Linked}
use Rattle.role_graph.proofs.GatherLemmas.{any_stands, stands_any}

-- ---- nodes and different roles

-- a list of different names, each of one of two others, is no longer than both
pub no_longer : (all one other : List (List ℕ)) → IsDistinct bytes_eq all → ((name : List ℕ) → Contains all name → Contains one name ⊎ Contains other name) → length all ≤ length one + length other
no_longer all one other once each =
    let few : length all ≤ length (one ++ other) = length-le_from_is_member nat_list_eq_equiv all (one ++ other) once (λ q is. any_stands q (one ++ other) (by q (each q (stands_any q all is)))) in
    omega (arith, few, length-append one other)
  where
    by : (q : List ℕ) → Contains one q ⊎ Contains other q → Contains (one ++ other) q
    by q (inl first) = Contains-append_left one other q first
    by q (inr second) = Contains-append_right one other q second

-- there are as many nodes as different roles
pub nodes_many : (linked : Linked) (names : List (List ℕ)) → AreNodes linked names → length names ≡ role_count (rows_of linked.groups)
nodes_many linked names nodes =
    let roles : List (List ℕ) = map role_of (rows_of linked.groups) in
    let few : length names ≤ length (different roles) + 0 =
    no_longer names (different roles) [] nodes.once (λ role stands. inl (stands_any role (different roles) (among_different role roles ∙ any_stands role roles (nodes.only role stands)))) in
    let many : length (different roles) ≤ length names + 0 =
    no_longer (different roles) names [] (distinct_different roles) (λ role stands. inl (nodes.all role (stands_any role roles (sym (among_different role roles) ∙ any_stands role (different roles) stands)))) in
    omega (arith, few, many)
