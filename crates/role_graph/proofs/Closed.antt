-- Squares whose cells are the least numbers of links between what is near.
use Rattle.std.proofs.Common.{◌≡◌, ◌≢◌, ◌⊎◌, inl, inr, ◌<◌, ◌≤◌, ◌+◌, ℕ, List, length, min, refl, sym, ap, subst, ◌∙◌, arith}
use Rattle.std.proofs.lemmas.Bool.{cases_eq, cases_lt}
use Rattle.dist_rows.specs.Squares.{IsSquare, cell_of, sum_of}
use Rattle.role_meaning.specs.Distances.{farthest}
use Rattle.role_meaning.specs.Least.{IsLeast}
use Rattle.role_graph.specs.Helps.Squares.{Chain, Grows, IsClosed, IsNear, Through}
use Rattle.role_graph.proofs.Chains.{WithLink, chain_itself, chain_none, chain_weaker, least_through, link_more, more_links}
use Rattle.role_graph.proofs.Leasts.{cases_sum, least_alike, least_below, least_either}

-- a node is at no distance from itself, and from no other
pub own_cell : (cells : List (List ℕ)) (a : ℕ) → IsClosed cells → a < length cells → cell_of cells a a ≡ 0
own_cell cells a closed within =
    let low : cell_of cells a a ≤ 0 = least_below farthest (λ links. Chain (IsNear cells) links a a) (cell_of cells a a) 0 (closed.least a a within within) (chain_itself (IsNear cells) 0 a a refl) in
    omega (arith, low)

pub zero_cell : (cells : List (List ℕ)) (a b : ℕ) → IsClosed cells → a < length cells → b < length cells → cell_of cells a b ≡ 0 → a ≡ b
zero_cell cells a b closed first second is =
    chain_none (IsNear cells) a b (subst (λ (links : ℕ). Chain (IsNear cells) links a b) is ((closed.least a b first second).holds (omega (arith, is))))

pub small_cell : (cells : List (List ℕ)) (a b : ℕ) → IsClosed cells → a < length cells → b < length cells → cell_of cells a b ≤ 255
small_cell cells a b closed first second = let within = (closed.least a b first second).within in omega (arith, within)

-- ---- a link is put in

-- a distance, or that by way of the link where it is less
abbrev pub inserted : List (List ℕ) → ℕ → ℕ → ℕ → ℕ → ℕ
inserted cells from to a b = min (cell_of cells a b) (sum_of (1 + cell_of cells a from) (cell_of cells to b))

-- each cell is the least of what it was and of what it is by way of the link
pub record IsInserted (old : List (List ℕ)) (from to : ℕ) (new : List (List ℕ)) : Type 0 where
  pub long : length new ≡ length old
  pub square : IsSquare new
  pub cells : (a b : ℕ) → a < length old → b < length old → cell_of new a b ≡ inserted old from to a b

near_cases : (old new : List (List ℕ)) (from to a b : ℕ) → IsClosed old → from < length old → to < length old → IsInserted old from to new → IsNear new a b → IsNear old a b ⊎ ((a ≡ from) × (b ≡ to))
near_cases old new from to a b closed one other is near = by (cases_lt 1 (cell_of old a b)) (cases_sum (1 + cell_of old a from) (cell_of old to b))
  where
    first : a < length old
    first = omega (arith, near.first, is.long)

    second : b < length old
    second = omega (arith, near.second, is.long)

    cell : cell_of new a b ≡ inserted old from to a b
    cell = is.cells a b first second

    by : (1 < cell_of old a b) ⊎ (cell_of old a b ≤ 1) → ((1 + cell_of old a from + cell_of old to b ≤ 254) × (sum_of (1 + cell_of old a from) (cell_of old to b) ≡ 1 + cell_of old a from + cell_of old to b)) ⊎ ((254 < 1 + cell_of old a from + cell_of old to b) × (sum_of (1 + cell_of old a from) (cell_of old to b) ≡ 255)) → IsNear old a b ⊎ ((a ≡ from) × (b ≡ to))
    by (inr low) sum = inl (record { first = first; second = second; near = low })
    by (inl high) (inr (far, sum)) = absurd (omega (arith, near.near, cell, sum))
    by (inl high) (inl (low, sum)) = inr (
      zero_cell old a from closed first one (omega (arith, near.near, cell, sum)),
      sym (zero_cell old to b closed other second (omega (arith, near.near, cell, sum))),
    )

near_keeps : (old new : List (List ℕ)) (from to a b : ℕ) → IsInserted old from to new → IsNear old a b → IsNear new a b
near_keeps old new from to a b is near = record {
  first = omega (arith, near.first, is.long);
  second = omega (arith, near.second, is.long);
  near = omega (arith, near.near, is.cells a b near.first near.second);
}

pub near_new : (old new : List (List ℕ)) (from to : ℕ) → IsClosed old → from < length old → to < length old → IsInserted old from to new → IsNear new from to
near_new old new from to closed one other is = record {
  first = omega (arith, one, is.long);
  second = omega (arith, other, is.long);
  near = by (cases_sum (1 + cell_of old from from) (cell_of old to to));
}
  where
    by : ((1 + cell_of old from from + cell_of old to to ≤ 254) × (sum_of (1 + cell_of old from from) (cell_of old to to) ≡ 1 + cell_of old from from + cell_of old to to)) ⊎ ((254 < 1 + cell_of old from from + cell_of old to to) × (sum_of (1 + cell_of old from from) (cell_of old to to) ≡ 255)) → cell_of new from to ≤ 1
    by (inl (low, sum)) = omega (arith, sum, is.cells from to one other, own_cell old from closed one, own_cell old to closed other)
    by (inr (high, sum)) = absurd (omega (arith, high, own_cell old from closed one, own_cell old to closed other))

-- the square is closed with the link
pub insert_grows : (old new : List (List ℕ)) (from to : ℕ) → IsClosed old → from < length old → to < length old → IsInserted old from to new → Grows (λ a b. (a ≡ from) × (b ≡ to)) old new
insert_grows old new from to closed one other is = record {
  closed = record { square = is.square; least = least };
  keeps = λ a b near. near_keeps old new from to a b is near;
  only = λ a b near. near_cases old new from to a b closed one other is near;
}
  where
    there : (a b links : ℕ) → Chain (IsNear old) links a b ⊎ Through (IsNear old) from to links a b → Chain (IsNear new) links a b
    there a b links chain = chain_weaker (WithLink (IsNear old) from to) (IsNear new) links a b by (more_links (IsNear old) from to links a b chain)
      where
        by : (c d : ℕ) → WithLink (IsNear old) from to c d → IsNear new c d
        by c d (inl near) = near_keeps old new from to c d is near
        by c d (inr (here, last)) = subst (λ (n : ℕ). IsNear new n d) (sym here) (subst (λ (n : ℕ). IsNear new from n) (sym last) (near_new old new from to closed one other is))

    back : (a b links : ℕ) → Chain (IsNear new) links a b → Chain (IsNear old) links a b ⊎ Through (IsNear old) from to links a b
    back a b links chain =
        link_more (IsNear old) from to links a b
        (chain_weaker (IsNear new) (WithLink (IsNear old) from to) links a b (λ c d near. near_cases old new from to c d closed one other is near) chain)

    least : (a b : ℕ) → a < length new → b < length new → IsLeast farthest (λ links. Chain (IsNear new) links a b) (cell_of new a b)
    least a b first second =
        let inside : a < length old = omega (arith, first, is.long) in
        let within : b < length old = omega (arith, second, is.long) in
        least_alike farthest (λ links. Chain (IsNear old) links a b ⊎ Through (IsNear old) from to links a b) (λ links. Chain (IsNear new) links a b) (cell_of new a b) (there a b) (back a b)
        (least_either farthest (λ links. Chain (IsNear old) links a b) (λ links. Through (IsNear old) from to links a b) (cell_of old a b) (sum_of (1 + cell_of old a from) (cell_of old to b)) (cell_of new a b) (closed.least a b inside within)
        (least_through (IsNear old) from to a b (cell_of old a from) (cell_of old to b) (closed.least a from inside one) (closed.least to b other within)) (is.cells a b inside within))

-- nothing was put in
pub grows_none : (Allowed : ℕ → ℕ → Type 0) (cells : List (List ℕ)) → IsClosed cells → Grows Allowed cells cells
grows_none Allowed cells closed = record {
  closed = closed;
  keeps = λ a b near. near;
  only = λ a b near. inl near;
}

pub grows_weaker : (Allowed Other : ℕ → ℕ → Type 0) (old new : List (List ℕ)) → ((a b : ℕ) → Allowed a b → Other a b) → Grows Allowed old new → Grows Other old new
grows_weaker Allowed Other old new weaker grows = record {
  closed = grows.closed;
  keeps = grows.keeps;
  only = λ a b near. by a b (grows.only a b near);
}
  where
    by : (a b : ℕ) → IsNear old a b ⊎ Allowed a b → IsNear old a b ⊎ Other a b
    by a b (inl near) = inl near
    by a b (inr allowed) = inr (weaker a b allowed)

pub grows_both : (Allowed : ℕ → ℕ → Type 0) (old between new : List (List ℕ)) → Grows Allowed old between → Grows Allowed between new → Grows Allowed old new
grows_both Allowed old between new first second = record {
  closed = second.closed;
  keeps = λ a b near. second.keeps a b (first.keeps a b near);
  only = λ a b near. by a b (second.only a b near);
}
  where
    by : (a b : ℕ) → IsNear between a b ⊎ Allowed a b → IsNear old a b ⊎ Allowed a b
    by a b (inl near) = first.only a b near
    by a b (inr allowed) = inr allowed

-- ---- row by row

-- the rows before `upto` are lowered by way of the link, and the others stand as they did
pub record AreLowered (old : List (List ℕ)) (from to upto : ℕ) (now : List (List ℕ)) : Type 0 where
  pub long : length now ≡ length old
  pub square : IsSquare now
  pub done : (a b : ℕ) → a < upto → a < length old → b < length old → cell_of now a b ≡ inserted old from to a b
  pub left : (a b : ℕ) → upto ≤ a → cell_of now a b ≡ cell_of old a b

pub lowered_none : (old : List (List ℕ)) (from to : ℕ) → IsClosed old → AreLowered old from to 0 old
lowered_none old from to closed = record {
  long = refl;
  square = closed.square;
  done = λ a b low. absurd (omega arith);
  left = λ a b low. refl;
}

-- what stands behind the link stays as it is
stays_behind : (old now : List (List ℕ)) (from to upto b : ℕ) → IsClosed old → from < length old → to < length old → b < length old → AreLowered old from to upto now → cell_of now to b ≡ cell_of old to b
stays_behind old now from to upto b closed one other within are = by (cases_lt to upto) (cases_sum (1 + cell_of old to from) (cell_of old to b))
  where
    by : (to < upto) ⊎ (upto ≤ to) → ((1 + cell_of old to from + cell_of old to b ≤ 254) × (sum_of (1 + cell_of old to from) (cell_of old to b) ≡ 1 + cell_of old to from + cell_of old to b)) ⊎ ((254 < 1 + cell_of old to from + cell_of old to b) × (sum_of (1 + cell_of old to from) (cell_of old to b) ≡ 255)) → cell_of now to b ≡ cell_of old to b
    by (inr left) sum = are.left to b left
    by (inl done) (inl (low, sum)) = omega (arith, are.done to b done other within, sum)
    by (inl done) (inr (high, sum)) = omega (arith, are.done to b done other within, sum, small_cell old to b closed other within)

-- before a row is lowered, it is as it was
pub still_small : (old now : List (List ℕ)) (from to upto b : ℕ) → IsClosed old → upto < length old → AreLowered old from to upto now → b < length now → cell_of now upto b ≤ 255
still_small old now from to upto b closed within are inside =
    omega (arith, are.left upto b (omega arith), small_cell old upto b closed within (omega (arith, inside, are.long)))

pub lowered_more : (old now new : List (List ℕ)) (from to upto : ℕ) → IsClosed old → from < length old → to < length old → upto < length old → AreLowered old from to upto now
    → length new ≡ length now → IsSquare new
    → ((b : ℕ) → b < length now → cell_of new upto b ≡ min (cell_of now upto b) (sum_of (1 + cell_of now upto from) (cell_of now to b)))
    → ((a b : ℕ) → a ≢ upto → cell_of new a b ≡ cell_of now a b) → AreLowered old from to (upto + 1) new
lowered_more old now new from to upto closed one other within are long square own others = record {
  long = long ∙ are.long;
  square = square;
  done = λ a b low first second. by a b low first second (cases_eq a upto);
  left = λ a b low. others a b (λ same. absurd (omega arith)) ∙ are.left a b (omega arith);
}
  where
    here : (b : ℕ) → b < length old → cell_of new upto b ≡ inserted old from to upto b
    here b second =
        own b (omega (arith, second, are.long))
        ∙ ap (λ (n : ℕ). min n (sum_of (1 + cell_of now upto from) (cell_of now to b))) (are.left upto b (omega arith))
        ∙ ap (λ (n : ℕ). min (cell_of old upto b) (sum_of (1 + n) (cell_of now to b))) (are.left upto from (omega arith))
        ∙ ap (λ (n : ℕ). min (cell_of old upto b) (sum_of (1 + cell_of old upto from) n)) (stays_behind old now from to upto b closed one other second are)

    by : (a b : ℕ) → a < upto + 1 → a < length old → b < length old → (a ≡ upto) ⊎ (¬ (a ≡ upto)) → cell_of new a b ≡ inserted old from to a b
    by a b low first second (inl same) =
        ap (λ (n : ℕ). cell_of new n b) same ∙ here b second ∙ ap (λ (n : ℕ). inserted old from to n b) (sym same)
    by a b low first second (inr differ) = others a b differ ∙ are.done a b (omega arith) first second

pub lowered_all : (old now : List (List ℕ)) (from to upto : ℕ) → length old ≤ upto → AreLowered old from to upto now → IsInserted old from to now
lowered_all old now from to upto every are = record {
  long = are.long;
  square = are.square;
  cells = λ a b first second. are.done a b (omega (arith, every)) first second;
}
