-- Rows of groups.
use Rattle.std.proofs.Common.{◌≡◌, ◌⊎◌, inl, inr, ◌<◌, ℕ, zero, suc, List, [], ◌∷◌, length, map, get_or, sym, arith}
use Rattle.std.specs.List.{Contains}
use Rattle.std.proofs.lemmas.List.Elements.{Contains-append_cases, Contains-append_left, Contains-append_right}
use Rattle.policy_table.specs.Tables.{Fields}
use Rattle.role_meaning.proofs.CallerLemmas.{map_cases, map_stands, stands_nowhere}
use Rattle.role_graph.specs.Groups.{Group, row, rows_of}
use Rattle.role_graph.specs.Helps.Walks.{no_group}

-- the group of a row, and its role
pub record InGroup (groups : List Group) (one : Fields) : Type 0 where
  pub at : ℕ
  pub role : List ℕ
  pub within : at < length groups
  pub stands : Contains (get_or groups at no_group).roles role
  pub is : one ≡ row (get_or groups at no_group).user role

pub in_group : (groups : List Group) (one : Fields) → Contains (rows_of groups) one → InGroup groups one
unfolding rows_of
in_group [] one none = absurd (stands_nowhere one none)
in_group (group ∷ groups) one stands = by (Contains-append_cases (map (row group.user) group.roles) (rows_of groups) one stands) (in_group groups one)
  where
    by : Contains (map (row group.user) group.roles) one ⊎ Contains (rows_of groups) one → (Contains (rows_of groups) one → InGroup groups one) → InGroup (group ∷ groups) one
    by (inl here) more =
        let found = map_cases (row group.user) group.roles one here in
        record { at = 0; role = found.0; within = omega arith; stands = found.1; is = sym found.2 }
    by (inr behind) more =
        let found = more behind in
        record { at = suc found.at; role = found.role; within = omega (arith, found.within); stands = found.stands; is = found.is }

pub row_stands : (groups : List Group) (at : ℕ) (role : List ℕ) → at < length groups → Contains (get_or groups at no_group).roles role → Contains (rows_of groups) (row (get_or groups at no_group).user role)
unfolding rows_of
row_stands [] at role within stands = absurd (omega arith)
row_stands (group ∷ groups) zero role within stands =
    Contains-append_left (map (row group.user) group.roles) (rows_of groups) (row group.user role) (map_stands (row group.user) group.roles role stands)
row_stands (group ∷ groups) (suc at) role within stands =
    Contains-append_right (map (row group.user) group.roles) (rows_of groups) (row (get_or groups at no_group).user role) (row_stands groups at role (omega arith) stands)
