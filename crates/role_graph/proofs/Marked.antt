-- Nodes that are marked.
use Rattle.std.proofs.Common.{◌≡◌, ◌⊎◌, inl, inr, ◌<◌, ◌≤◌, ◌+◌, ℕ, Bool, true, false, List, length, get_or, replicate, set, sym, ap, ◌∙◌, arith, get_or-set_other, get_or-set_same}
use Rattle.std.proofs.lemmas.Bool.{cases_eq, cases_lt, false≢true}
use Rattle.std.proofs.lemmas.List.{get_or-replicate, get_or_past, length-replicate}
use Rattle.dist_rows.specs.Squares.{most_nodes}
use Rattle.role_graph.specs.Helps.Squares.{IsMarked}

-- a mark that is set, and the others
pub mark_here : (marks : List Bool) (at : ℕ) → at < length marks → IsMarked (set marks at true) at
mark_here marks at within = get_or-set_same marks at true false within

pub mark_stays : (marks : List Bool) (at a : ℕ) → at < length marks → IsMarked marks a → IsMarked (set marks at true) a
mark_stays marks at a within marked = by (cases_eq a at)
  where
    by : (a ≡ at) ⊎ (¬ (a ≡ at)) → IsMarked (set marks at true) a
    by (inl same) = ap (λ (n : ℕ). get_or (set marks at true) n false) same ∙ mark_here marks at within
    by (inr differ) = get_or-set_other marks at a true false differ ∙ marked

pub marks_from : (marks : List Bool) (known node a : ℕ) → node < length marks → ((b : ℕ) → known ≤ b → b < node → IsMarked marks b) → known ≤ a → a < node + 1 → IsMarked (set marks node true) a
marks_from marks known node a within before past low = by (cases_eq a node)
  where
    by : (a ≡ node) ⊎ (¬ (a ≡ node)) → IsMarked (set marks node true) a
    by (inl same) = ap (λ (n : ℕ). get_or (set marks node true) n false) same ∙ mark_here marks node within
    by (inr differ) = mark_stays marks node a within (before a past (omega arith))

-- no place is marked
pub none_marked : (a : ℕ) → IsMarked (replicate most_nodes false) a → ⊥
none_marked a marked = by (cases_lt a most_nodes)
  where
    by : (a < most_nodes) ⊎ (most_nodes ≤ a) → ⊥
    by (inl within) = false≢true (sym (get_or-replicate most_nodes a false false within) ∙ marked)
    by (inr past) = false≢true (sym (get_or_past (replicate most_nodes false) a false (let long : length (replicate most_nodes false) ≡ most_nodes = length-replicate {A = Bool} most_nodes false in omega (arith, past, long))) ∙ marked)
