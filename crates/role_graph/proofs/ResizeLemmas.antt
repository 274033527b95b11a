-- Squares that are cleared, and such as get nodes without links.
use Rattle.std.proofs.Common.{◌≡◌, ◌≢◌, ◌⊎◌, inl, inr, ◌<◌, ◌≤◌, ◌+◌, ◌-◌, ℕ, List, [], ◌∷◌, ◌++◌, length, map, replicate, get_or, set, refl, sym, ap, subst, ◌∙◌, arith, length-append, length-set, length-take-le}
use Rattle.std.specs.List.{swap_remove}
use Rattle.std.proofs.lemmas.Bool.{cases_eq, cases_lt}
use Rattle.std.proofs.lemmas.List.{length-map}
use Rattle.dist_rows.specs.Squares.{IsSquare, cell_of, cleared, dropped, widened}
use Rattle.dist_rows.proofs.CallerLemmas.{cleared_column, cleared_other, cleared_own, widened_column, widened_old, widened_own, widened_row}
use Rattle.role_meaning.specs.Distances.{farthest}
use Rattle.role_meaning.specs.Least.{IsLeast}
use Rattle.role_graph.specs.Helps.Squares.{Chain, Grows, IsClosed, IsNear}
use Rattle.role_graph.proofs.Chains.{chain_alone, chain_ends, chain_itself, chain_loops, chain_starts, chain_weaker}
use Rattle.role_graph.proofs.Leasts.{least_alike, least_none}

pub length_widened : (cells : List (List ℕ)) → length (widened cells) ≡ length cells + 1
length_widened cells =
    length-append (map (λ (row : List ℕ). row ++ 255 ∷ []) cells) ((replicate (length cells) 255 ++ 0 ∷ []) ∷ []) ∙ ap (λ (n : ℕ). n + 1) (length-map cells (λ (row : List ℕ). row ++ 255 ∷ []))

pub length_dropped : (cells : List (List ℕ)) (at : ℕ) → length (dropped at cells) ≡ length cells - 1
length_dropped cells at =
    length-map (swap_remove cells at []) (λ (row : List ℕ). swap_remove row at 0)
    ∙ length-take-le (length cells - 1) (set cells at (get_or cells (length cells - 1) [])) (omega (arith, length-set cells at (get_or cells (length cells - 1) [])))

-- a distance of no links, and one of none
least_zero : (Holds : ℕ → Type 0) (found : ℕ) → found ≡ 0 → Holds 0 → IsLeast farthest Holds found
least_zero Holds found is holds = record {
  within = omega (arith, is);
  holds = λ low. subst Holds (sym is) holds;
  least = λ lower less. absurd (omega (arith, is));
}

-- ---- a node more

widened_near : (cells : List (List ℕ)) (a b : ℕ) → IsClosed cells → IsNear (widened cells) a b → IsNear cells a b ⊎ (a ≡ b)
widened_near cells a b closed near = by (cases_lt a (length cells)) (cases_lt b (length cells))
  where
    last : (n : ℕ) → n < length (widened cells) → length cells ≤ n → n ≡ length cells
    last n within past = omega (arith, length_widened cells)

    by : (a < length cells) ⊎ (length cells ≤ a) → (b < length cells) ⊎ (length cells ≤ b) → IsNear cells a b ⊎ (a ≡ b)
    by (inl first) (inl second) = inl (record { first = first; second = second; near = omega (arith, near.near, widened_old cells a b closed.square first second) })
    by (inl first) (inr past) = absurd (let here : cell_of (widened cells) a b ≡ 255 = ap (cell_of (widened cells) a) (last b near.second past) ∙ widened_column cells a closed.square first in omega (arith, near.near, here))
    by (inr past) (inl second) = absurd (let here : cell_of (widened cells) a b ≡ 255 = ap (λ (n : ℕ). cell_of (widened cells) n b) (last a near.first past) ∙ widened_row cells b second in omega (arith, near.near, here))
    by (inr past) (inr beyond) = inr (last a near.first past ∙ sym (last b near.second beyond))

widened_keeps : (cells : List (List ℕ)) (a b : ℕ) → IsClosed cells → IsNear cells a b → IsNear (widened cells) a b
widened_keeps cells a b closed near = record {
  first = omega (arith, near.first, length_widened cells);
  second = omega (arith, near.second, length_widened cells);
  near = omega (arith, near.near, widened_old cells a b closed.square near.first near.second);
}

pub widen_grows : (old new : List (List ℕ)) → IsClosed old → new ≡ widened old → IsSquare new → Grows (λ a b. a ≡ b) old new
widen_grows old new closed is square =
    subst (Grows (λ a b. a ≡ b) old) (sym is) (record {
      closed = record { square = subst IsSquare is square; least = least };
      keeps = λ a b near. widened_keeps old a b closed near;
      only = λ a b near. widened_near old a b closed near;
    })
  where
    wide : List (List ℕ)
    wide = widened old

    there : (a b links : ℕ) → Chain (IsNear old) links a b → Chain (IsNear (widened old)) links a b
    there a b links chain = chain_weaker (IsNear old) (IsNear (widened old)) links a b (λ c d near. widened_keeps old c d closed near) chain

    back : (a b links : ℕ) → Chain (IsNear (widened old)) links a b → Chain (IsNear old) links a b
    back a b links chain = chain_loops (IsNear (widened old)) (IsNear old) links a b (λ c d near. widened_near old c d closed near) chain

    last : (n : ℕ) → n < length (widened old) → length old ≤ n → n ≡ length old
    last n within past = omega (arith, length_widened old)

    to_last : (a b : ℕ) → a < length old → length old ≤ b → (a ≡ b) ⊎ (b < length old) → ⊥
    to_last a b first past (inl same) = omega arith
    to_last a b first past (inr within) = omega arith

    from_last : (a b : ℕ) → b < length old → length old ≤ a → (a ≡ b) ⊎ (a < length old) → ⊥
    from_last a b second past (inl same) = omega arith
    from_last a b second past (inr within) = omega arith

    by : (a b : ℕ) → a < length (widened old) → b < length (widened old) → (a < length old) ⊎ (length old ≤ a) → (b < length old) ⊎ (length old ≤ b) → IsLeast farthest (λ links. Chain (IsNear (widened old)) links a b) (cell_of (widened old) a b)
    by a b within inside (inl first) (inl second) =
        subst (IsLeast farthest (λ links. Chain (IsNear (widened old)) links a b)) (sym (widened_old old a b closed.square first second))
        (least_alike farthest (λ links. Chain (IsNear old) links a b) (λ links. Chain (IsNear (widened old)) links a b) (cell_of old a b) (there a b) (back a b) (closed.least a b first second))
    by a b within inside (inl first) (inr past) =
        least_none farthest (λ links. Chain (IsNear (widened old)) links a b) (cell_of (widened old) a b) (ap (cell_of (widened old) a) (last b inside past) ∙ widened_column old a closed.square first)
        (λ links chain. to_last a b first past (chain_ends (IsNear old) (λ n. n < length old) links a b (λ c d near. near.second) (back a b links chain)))
    by a b within inside (inr past) (inl second) =
        least_none farthest (λ links. Chain (IsNear (widened old)) links a b) (cell_of (widened old) a b) (ap (λ (n : ℕ). cell_of (widened old) n b) (last a within past) ∙ widened_row old b second)
        (λ links chain. from_last a b second past (chain_starts (IsNear old) (λ n. n < length old) links a b (λ c d near. near.first) (back a b links chain)))
    by a b within inside (inr past) (inr beyond) =
        least_zero (λ links. Chain (IsNear (widened old)) links a b) (cell_of (widened old) a b)
        (ap (λ (n : ℕ). cell_of (widened old) n b) (last a within past) ∙ ap (cell_of (widened old) (length old)) (last b inside beyond) ∙ widened_own old)
        (chain_itself (IsNear (widened old)) 0 a b (last a within past ∙ sym (last b inside beyond)))

    least : (a b : ℕ) → a < length (widened old) → b < length (widened old) → IsLeast farthest (λ links. Chain (IsNear (widened old)) links a b) (cell_of (widened old) a b)
    least a b within inside = by a b within inside (cases_lt a (length old)) (cases_lt b (length old))

-- ---- no links

-- the rows before `upto` have no distance but that to their own node
pub record AreCleared (size upto : ℕ) (now : List (List ℕ)) : Type 0 where
  pub long : length now ≡ size
  pub square : IsSquare now
  pub own : (a : ℕ) → a < upto → a < size → cell_of now a a ≡ 0
  pub others : (a b : ℕ) → a < upto → a < size → b < size → b ≢ a → cell_of now a b ≡ 255

pub cleared_none : (cells : List (List ℕ)) → IsSquare cells → AreCleared (length cells) 0 cells
cleared_none cells square = record {
  long = refl;
  square = square;
  own = λ a low. absurd (omega arith);
  others = λ a b low. absurd (omega arith);
}

pub cleared_more : (size upto : ℕ) (now new : List (List ℕ)) → upto < size → new ≡ cleared now upto → IsSquare new → AreCleared size upto now → AreCleared size (upto + 1) new
cleared_more size upto now new within is square are = record {
  long = ap (λ (cells : List (List ℕ)). length cells) is ∙ length-set now upto _ ∙ are.long;
  square = square;
  own = λ a low inside. ap (λ (cells : List (List ℕ)). cell_of cells a a) is ∙ own a low inside (cases_eq a upto);
  others = λ a b low inside there differ. ap (λ (cells : List (List ℕ)). cell_of cells a b) is ∙ others a b low inside there differ (cases_eq a upto);
}
  where
    here : upto < length now
    here = omega (arith, are.long)

    own : (a : ℕ) → a < upto + 1 → a < size → (a ≡ upto) ⊎ (¬ (a ≡ upto)) → cell_of (cleared now upto) a a ≡ 0
    own a low inside (inl same) = ap (λ (n : ℕ). cell_of (cleared now upto) n n) same ∙ cleared_own now upto here
    own a low inside (inr differ) = cleared_other now upto a a differ ∙ are.own a (omega arith) inside

    others : (a b : ℕ) → a < upto + 1 → a < size → b < size → b ≢ a → (a ≡ upto) ⊎ (¬ (a ≡ upto)) → cell_of (cleared now upto) a b ≡ 255
    others a b low inside there differ (inl same) =
        ap (λ (n : ℕ). cell_of (cleared now upto) n b) same ∙ cleared_column now upto b here (omega (arith, are.long)) (λ equal. differ (equal ∙ sym same))
    others a b low inside there differ (inr apart) = cleared_other now upto a b apart ∙ are.others a b (omega arith) inside there differ

cleared_near : (size upto : ℕ) (now : List (List ℕ)) (a b : ℕ) → size ≤ upto → AreCleared size upto now → IsNear now a b → a ≡ b
cleared_near size upto now a b every are near = by (cases_eq b a)
  where
    by : (b ≡ a) ⊎ (¬ (b ≡ a)) → a ≡ b
    by (inl same) = sym same
    by (inr differ) = absurd (omega (arith, near.near, are.others a b (omega (arith, near.first, are.long)) (omega (arith, near.first, are.long)) (omega (arith, near.second, are.long)) differ))

pub cleared_alone : (size upto : ℕ) (now : List (List ℕ)) → size ≤ upto → AreCleared size upto now → (a b : ℕ) → IsNear now a b → a ≡ b
cleared_alone size upto now every are a b near = cleared_near size upto now a b every are near

pub cleared_closed : (size upto : ℕ) (now : List (List ℕ)) → size ≤ upto → AreCleared size upto now → IsClosed now
cleared_closed size upto now every are = record { square = are.square; least = λ a b first second. by a b first second (cases_eq b a) }
  where
    by : (a b : ℕ) → a < length now → b < length now → (b ≡ a) ⊎ (¬ (b ≡ a)) → IsLeast farthest (λ links. Chain (IsNear now) links a b) (cell_of now a b)
    by a b first second (inl same) =
        least_zero (λ links. Chain (IsNear now) links a b) (cell_of now a b) (ap (cell_of now a) same ∙ are.own a (omega (arith, are.long)) (omega (arith, are.long))) (chain_itself (IsNear now) 0 a b (sym same))
    by a b first second (inr differ) =
        least_none farthest (λ links. Chain (IsNear now) links a b) (cell_of now a b) (are.others a b (omega (arith, are.long)) (omega (arith, are.long)) (omega (arith, are.long)) differ)
        (λ links chain. differ (sym (chain_alone (IsNear now) links a b (λ c d near. cleared_near size upto now c d every are near) chain)))
