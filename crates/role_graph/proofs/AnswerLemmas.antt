-- What a walk answers, and a graph without rows.
use Rattle.std.proofs.Common.{◌≡◌, ◌≤◌, ◌++◌, ℕ, Bool, List, [], Option, None, Some, IsTrue, map, sym, ap, subst, ◌∙◌, arith, le-leb, leb-true}
use Rattle.std.specs.Prelude.{◌↔◌, is_some, nat_le, unwrap_or}
use Rattle.std.specs.List.{Contains, IsDistinct}
use Rattle.std.proofs.lemmas.Bool.{false≢true}
use Rattle.policy_table.specs.Tables.{Fields}
use Rattle.role_meaning.specs.Distances.{IsFar}
use Rattle.role_meaning.specs.Least.{IsLeast}
use Rattle.role_meaning.specs.Links.{Reaches, role_of}
use Rattle.role_meaning.proofs.CallerLemmas.{far_tells, reaches_more, stands_nowhere}
use Rattle.role_graph.specs.Graph.{shape_of}
use Rattle.role_graph.specs.Groups.{Group, rows_of}
use Rattle.role_graph.specs.Helps.Squares.{AreNodes}
use Rattle.role_graph.specs.Helps.Walks.{IsDistance, Linked}

pub no_rows : (plain patterned : List Group) → plain ≡ [] → patterned ≡ [] → rows_of (plain ++ patterned) ≡ []
unfolding rows_of
no_rows plain patterned one two = ap (λ (groups : List Group). rows_of (groups ++ patterned)) one ∙ ap (λ (groups : List Group). rows_of groups) two

pub linked_told : (linked : Linked) (x y : List ℕ) (most : ℕ) (found : Option ℕ) (test : Bool) → test ≡ is_some found → IsDistance linked x y most found → IsTrue test ↔ Reaches (shape_of linked.names) (rows_of linked.groups) None most x y
linked_told linked x y most None test is never = (λ yes. absurd (false≢true (sym is ∙ yes)), λ reaches. absurd (never reaches))
linked_told linked x y most (Some links) test is found =
    (λ yes. reaches_more (shape_of linked.names) (rows_of linked.groups) None links most x y found.0 (found.1.holds found.0), λ reaches. is)

pub far_told : (linked : Linked) (x y : List ℕ) (found : Option ℕ) (result : ℕ) → result ≡ unwrap_or found 255 → IsDistance linked x y 254 found → IsLeast 254 (λ links. Reaches (shape_of linked.names) (rows_of linked.groups) None links x y) result
far_told linked x y (Some links) result is found =
    subst (IsLeast 254 (λ (links : ℕ). Reaches (shape_of linked.names) (rows_of linked.groups) None links x y)) (sym is) found.1
far_told linked x y None result is never = record {
  within = omega arith;
  holds = λ low. absurd (omega arith);
  least = λ lower less reaches. never (reaches_more (shape_of linked.names) (rows_of linked.groups) None lower 254 x y (omega arith) reaches);
}

-- what a distance tells of the limit
pub kept_told : (linked : Linked) (x y : List ℕ) (limit far : ℕ) → limit ≤ 250 → IsFar (shape_of linked.names) (rows_of linked.groups) None x y far → IsTrue (nat_le far limit) ↔ Reaches (shape_of linked.names) (rows_of linked.groups) None limit x y
kept_told linked x y limit far few is = (λ near. tells.1 (leb-true far limit near), λ reaches. le-leb far limit (tells.0 reaches))
  where
    tells : Reaches (shape_of linked.names) (rows_of linked.groups) None limit x y ↔ (far ≤ limit)
    tells = far_tells (shape_of linked.names) (rows_of linked.groups) None x y far limit (omega arith) is

-- ---- a graph without rows

pub nodes_none : (linked : Linked) (names : List (List ℕ)) → names ≡ [] → rows_of linked.groups ≡ [] → AreNodes linked names
unfolding IsDistinct
nodes_none linked names none empty =
    subst (AreNodes linked) (sym none) (record {
      once = tt;
      all = λ role stands. absurd (stands_nowhere role (subst (λ (rows : List Fields). Contains (map role_of rows) role) empty stands));
      only = λ role stands. absurd (stands_nowhere role stands);
    })
