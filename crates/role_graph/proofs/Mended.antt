-- Squares from which links are taken out, and whose distances are found anew.
use Rattle.std.proofs.Common.{◌≡◌, ◌≢◌, ◌⊎◌, inl, inr, ◌<◌, ◌≤◌, ◌+◌, ℕ, zero, suc, Bool, true, false, List, length, get_or, min, set, refl, sym, ap, subst, ◌∙◌, arith, length-set}
use Rattle.std.proofs.lemmas.Bool.{cases_Bool, cases_eq, cases_lt, false≢true}
use Rattle.dist_rows.specs.Squares.{IsSquare, cell_of, lowered, relaxed, row_of, sum_of, with_cell}
use Rattle.dist_rows.proofs.CallerLemmas.{relaxed_other, relaxed_own, with_cell_column, with_cell_own, with_cell_row}
use Rattle.role_meaning.specs.Distances.{farthest}
use Rattle.role_meaning.specs.Least.{IsLeast}
use Rattle.role_graph.specs.Helps.Mended.{AreHit, AreTold, IsKept, IsMending, IsReset, IsStable, IsStableAt}
use Rattle.role_graph.specs.Helps.Squares.{Chain, IsBefore, IsBegun, IsClosed, IsMarked, IsNear, IsNodeLink}
use Rattle.role_graph.specs.Helps.Walks.{Linked}
use Rattle.role_graph.proofs.Chains.{chain_itself, chain_joined, chain_link, chain_none, chain_weaker}
use Rattle.role_graph.proofs.Closed.{own_cell, small_cell, zero_cell}
use Rattle.role_graph.proofs.Leasts.{cases_sum, least_alike, least_below}

-- ---- chains and sums

-- a chain taken apart at its end
chain_last : (Link : ℕ → ℕ → Type 0) (links a b : ℕ) → Chain Link (suc links) a b → Chain Link links a b ⊎ ((x : ℕ) × Chain Link links a x × Link x b)
unfolding Chain
chain_last Link zero a b (inl same) = inl same
chain_last Link zero a b (inr (next, link, same)) = inr (a, refl, subst (Link a) same link)
chain_last Link (suc links) a b (inl same) = inl (inl same)
chain_last Link (suc links) a b (inr (next, link, chain)) = by (chain_last Link links next b chain)
  where
    by : Chain Link links next b ⊎ ((x : ℕ) × Chain Link links next x × Link x b) → Chain Link (suc links) a b ⊎ ((x : ℕ) × Chain Link (suc links) a x × Link x b)
    by (inl sooner) = inl (inr (next, link, sooner))
    by (inr (x, before, last)) = inr (x, inr (next, link, before), last)

one_link : (Link : ℕ → ℕ → Type 0) (a b : ℕ) → Link a b → Chain Link 1 a b
one_link Link a b link = chain_link Link 0 a b b link (chain_itself Link 0 b b refl)

one_link_more : (Link : ℕ → ℕ → Type 0) (links a x b : ℕ) → Chain Link links a x → Link x b → Chain Link (suc links) a b
one_link_more Link links a x b chain link =
    subst (λ (k : ℕ). Chain Link k a b) (let e : links + 1 ≡ suc links = omega arith in e) (chain_joined Link links 1 a x b chain (one_link Link x b link))

sum_rises : (x y : ℕ) → x ≤ y → sum_of 1 x ≤ sum_of 1 y
sum_rises x y less = by (cases_sum 1 x) (cases_sum 1 y)
  where
    by : ((1 + x ≤ 254) × (sum_of 1 x ≡ 1 + x)) ⊎ ((254 < 1 + x) × (sum_of 1 x ≡ 255)) → ((1 + y ≤ 254) × (sum_of 1 y ≡ 1 + y)) ⊎ ((254 < 1 + y) × (sum_of 1 y ≡ 255)) → sum_of 1 x ≤ sum_of 1 y
    by (inl (small, is)) (inl (low, other)) = omega (arith, is, other, less)
    by (inl (small, is)) (inr (high, other)) = omega (arith, is, other, small)
    by (inr (large, is)) (inl (low, other)) = absurd (omega (arith, large, low, less))
    by (inr (large, is)) (inr (high, other)) = omega (arith, is, other)

-- of each place below the next one
pub next_place : (P : ℕ → Type 0) (at : ℕ) → ((k : ℕ) → k < at → P k) → P at → (k : ℕ) → k < at + 1 → P k
next_place P at before here k low = by (cases_eq k at)
  where
    by : (k ≡ at) ⊎ (k ≡ at → ⊥) → P k
    by (inl same) = subst P (sym same) here
    by (inr differ) = before k (omega (arith, low, differ))

pub unmarked : (marks : List Bool) (a : ℕ) → get_or marks a false ≡ false → ¬ IsMarked marks a
unmarked marks a unset = λ marked. false≢true (sym unset ∙ marked)

-- ---- one cell is written

pub written_long : (cells new : List (List ℕ)) (a b value : ℕ) → new ≡ with_cell cells a b value → length new ≡ length cells
written_long cells new a b value is = ap (λ (l : List (List ℕ)). length l) is ∙ length-set cells a (set (row_of cells a) b value)

pub written_own : (cells new : List (List ℕ)) (a b value : ℕ) → IsSquare cells → a < length cells → b < length cells → new ≡ with_cell cells a b value → cell_of new a b ≡ value
written_own cells new a b value square first second is = ap (λ (l : List (List ℕ)). cell_of l a b) is ∙ with_cell_own cells a b value square first second

pub written_column : (cells new : List (List ℕ)) (a b value k : ℕ) → a < length cells → k ≢ b → new ≡ with_cell cells a b value → cell_of new a k ≡ cell_of cells a k
written_column cells new a b value k first other is = ap (λ (l : List (List ℕ)). cell_of l a k) is ∙ with_cell_column cells a b value k first other

pub written_row : (cells new : List (List ℕ)) (a b value i k : ℕ) → i ≢ a → new ≡ with_cell cells a b value → cell_of new i k ≡ cell_of cells i k
written_row cells new a b value i k other is = ap (λ (l : List (List ℕ)). cell_of l i k) is ∙ with_cell_row cells a b value i k other

-- ---- what is kept

kept_itself : (linked : Linked) (names cells : List (List ℕ)) (a : ℕ) → IsClosed cells → a < length cells → IsKept linked names cells a a
kept_itself linked names cells a closed within = record { near = record { first = within; second = within; near = omega (arith, own_cell cells a closed within) }; still = inl refl }

-- a node at no distance is the same
pub kept_zero : (linked : Linked) (names old : List (List ℕ)) (a b far : ℕ) → IsClosed old → a < length old → b < length old → far ≡ cell_of old a b → far ≡ 0 → IsKept linked names old a b
kept_zero linked names old a b far closed first second is none = record {
  near = record { first = first; second = second; near = omega (arith, is, none) };
  still = inl (zero_cell old a b closed first second (sym is ∙ none));
}

-- what is near one that is not touched stays
pub kept_untouched : (linked : Linked) (names : List (List ℕ)) (touched : List Bool) (old : List (List ℕ)) (a b far : ℕ) → IsBefore linked names touched old → a < length old → b < length old → far ≡ cell_of old a b → far ≡ 1 → (¬ IsMarked touched a) → IsKept linked names old a b
kept_untouched linked names touched old a b far before first second is one none = record { near = near; still = before.sound a b none near }
  where
    near : IsNear old a b
    near = record { first = first; second = second; near = omega (arith, is, one) }

pub kept_linked : (linked : Linked) (names old : List (List ℕ)) (a b far : ℕ) → a < length old → b < length old → far ≡ cell_of old a b → far ≡ 1 → IsNodeLink linked names a b → IsKept linked names old a b
kept_linked linked names old a b far first second is one link = record { near = record { first = first; second = second; near = omega (arith, is, one) }; still = inr link }

pub far_gone : (linked : Linked) (names old : List (List ℕ)) (a b far : ℕ) → far ≡ cell_of old a b → (far ≡ 1 → ⊥) → (far ≡ 0 → ⊥) → ¬ IsKept linked names old a b
far_gone linked names old a b far is not_one not_none = λ kept. let near = kept.near.near in absurd (omega (arith, is, not_one, not_none, near))

-- what is kept a link away is linked
pub kept_link : (linked : Linked) (names old : List (List ℕ)) (a b : ℕ) → IsClosed old → a < length old → cell_of old a b ≡ 1 → IsKept linked names old a b → IsNodeLink linked names a b
kept_link linked names old a b closed first one kept = by kept.still
  where
    by : (a ≡ b) ⊎ IsNodeLink linked names a b → IsNodeLink linked names a b
    by (inl same) = let own = own_cell old a closed first in let here : cell_of old a a ≡ cell_of old a b = ap (cell_of old a) same in absurd (omega (arith, own, here, one))
    by (inr link) = link

-- ---- nodes that are hit

-- what is near and not one link away is the same node
pub hit_same : (linked : Linked) (names cells : List (List ℕ)) (hits : List Bool) (node to far a : ℕ) → IsClosed cells → far ≡ cell_of cells node to → (far ≡ 1 → ⊥) → IsNear cells node to → IsKept linked names cells node to ⊎ IsMarked hits a
hit_same linked names cells hits node to far a closed is differ near =
    let low = near.near in
    inl (record { near = near; still = inl (zero_cell cells node to closed near.first near.second (omega (arith, low, is, differ))) })

pub hit_linked : (linked : Linked) (names cells : List (List ℕ)) (hits : List Bool) (node to a : ℕ) → IsNodeLink linked names node to → IsNear cells node to → IsKept linked names cells node to ⊎ IsMarked hits a
hit_linked linked names cells hits node to a link near = inl (record { near = near; still = inr link })

pub hit_still : (linked : Linked) (names cells : List (List ℕ)) (old new : List Bool) (node to a : ℕ) → ((k : ℕ) → IsMarked old k → IsMarked new k) → IsKept linked names cells node to ⊎ IsMarked old a → IsKept linked names cells node to ⊎ IsMarked new a
hit_still linked names cells old new node to a keeps (inl kept) = inl kept
hit_still linked names cells old new node to a keeps (inr marked) = inr (keeps a marked)

-- nodes that are not touched keep what is near
pub hit_untouched : (linked : Linked) (names : List (List ℕ)) (touched : List Bool) (cells : List (List ℕ)) (hits : List Bool) (from to a : ℕ) → IsBefore linked names touched cells → (¬ IsMarked touched from) → IsNear cells from to → IsKept linked names cells from to ⊎ IsMarked hits a
hit_untouched linked names touched cells hits from to a before none near = inl (record { near = near; still = before.sound from to none near })

-- ---- rows that are reset

-- one place more of a row
pub reset_kept : (linked : Linked) (names old : List (List ℕ)) (a at : ℕ) (cells : List (List ℕ)) → IsKept linked names old a at → cell_of cells a at ≡ cell_of old a at → IsReset linked names old a at cells → IsReset linked names old a (at + 1) cells
reset_kept linked names old a at cells kept same reset = record {
  each = next_place (λ b. (IsKept linked names old a b × (cell_of cells a b ≡ cell_of old a b)) ⊎ ((¬ IsKept linked names old a b) × (cell_of cells a b ≡ 255))) at reset.each (inl (kept, same));
}

pub reset_gone : (linked : Linked) (names old : List (List ℕ)) (a at : ℕ) (cells new : List (List ℕ)) → (¬ IsKept linked names old a at) → IsSquare cells → a < length cells → at < length cells → new ≡ with_cell cells a at 255 → IsReset linked names old a at cells → IsReset linked names old a (at + 1) new
reset_gone linked names old a at cells new gone square first second is reset = record {
  each = next_place (λ b. (IsKept linked names old a b × (cell_of new a b ≡ cell_of old a b)) ⊎ ((¬ IsKept linked names old a b) × (cell_of new a b ≡ 255))) at
      (λ b low. by b (written_column cells new a at 255 b first (λ same. absurd (omega (arith, low, same))) is) (reset.each b low)) (inr (gone, written_own cells new a at 255 square first second is));
}
  where
    by : (b : ℕ) → cell_of new a b ≡ cell_of cells a b → (IsKept linked names old a b × (cell_of cells a b ≡ cell_of old a b)) ⊎ ((¬ IsKept linked names old a b) × (cell_of cells a b ≡ 255))
        → (IsKept linked names old a b × (cell_of new a b ≡ cell_of old a b)) ⊎ ((¬ IsKept linked names old a b) × (cell_of new a b ≡ 255))
    by b same (inl (kept, here)) = inl (kept, same ∙ here)
    by b same (inr (none, here)) = inr (none, same ∙ here)

pub reset_ends : (linked : Linked) (names old : List (List ℕ)) (a upto to : ℕ) (cells : List (List ℕ)) → to ≤ upto → IsReset linked names old a upto cells → IsReset linked names old a to cells
reset_ends linked names old a upto to cells past reset = record { each = λ b low. reset.each b (omega (arith, low, past)) }

-- a row as it stands in other cells
reset_moved : (linked : Linked) (names old : List (List ℕ)) (a upto : ℕ) (cells new : List (List ℕ)) → ((b : ℕ) → cell_of new a b ≡ cell_of cells a b) → IsReset linked names old a upto cells → IsReset linked names old a upto new
reset_moved linked names old a upto cells new same reset = record { each = λ b low. by b (reset.each b low) }
  where
    by : (b : ℕ) → (IsKept linked names old a b × (cell_of cells a b ≡ cell_of old a b)) ⊎ ((¬ IsKept linked names old a b) × (cell_of cells a b ≡ 255))
        → (IsKept linked names old a b × (cell_of new a b ≡ cell_of old a b)) ⊎ ((¬ IsKept linked names old a b) × (cell_of new a b ≡ 255))
    by b (inl (kept, here)) = inl (kept, same b ∙ here)
    by b (inr (none, here)) = inr (none, same b ∙ here)

-- the rows of marked nodes before a place are reset
pub record IsResetting (linked : Linked) (names old : List (List ℕ)) (hits : List Bool) (upto : ℕ) (cells : List (List ℕ)) : Type 0 where
  pub long : length cells ≡ length old
  pub square : IsSquare cells
  pub done : (a : ℕ) → a < upto → IsMarked hits a → IsReset linked names old a (length old) cells
  pub alone : (a b : ℕ) → (¬ IsMarked hits a) → cell_of cells a b ≡ cell_of old a b
  pub later : (a b : ℕ) → upto ≤ a → cell_of cells a b ≡ cell_of old a b

pub resetting_begins : (linked : Linked) (names old : List (List ℕ)) (hits : List Bool) → IsSquare old → IsResetting linked names old hits 0 old
resetting_begins linked names old hits square = record {
  long = refl;
  square = square;
  done = λ a low. absurd (omega (arith, low));
  alone = λ a b none. refl;
  later = λ a b past. refl;
}

pub resetting_skips : (linked : Linked) (names old : List (List ℕ)) (hits : List Bool) (node : ℕ) (cells : List (List ℕ)) → (¬ IsMarked hits node) → IsResetting linked names old hits node cells → IsResetting linked names old hits (node + 1) cells
resetting_skips linked names old hits node cells none resetting = record {
  long = resetting.long;
  square = resetting.square;
  done = next_place (λ a. IsMarked hits a → IsReset linked names old a (length old) cells) node resetting.done (λ marked. absurd (none marked));
  alone = resetting.alone;
  later = λ a b past. resetting.later a b (omega (arith, past));
}

pub resetting_more : (linked : Linked) (names old : List (List ℕ)) (hits : List Bool) (node : ℕ) (cells new : List (List ℕ)) → IsMarked hits node → length new ≡ length cells → IsSquare new → ((a b : ℕ) → a ≢ node → cell_of new a b ≡ cell_of cells a b)
    → IsReset linked names old node (length old) new → IsResetting linked names old hits node cells → IsResetting linked names old hits (node + 1) new
resetting_more linked names old hits node cells new marked long square others reset resetting = record {
  long = long ∙ resetting.long;
  square = square;
  done = next_place (λ a. IsMarked hits a → IsReset linked names old a (length old) new) node
      (λ a low hit. reset_moved linked names old a (length old) cells new (λ b. others a b (λ same. absurd (omega (arith, low, same)))) (resetting.done a low hit)) (λ hit. reset);
  alone = λ a b none. others a b (λ same. none (subst (IsMarked hits) (sym same) marked)) ∙ resetting.alone a b none;
  later = λ a b past. others a b (λ same. absurd (omega (arith, past, same))) ∙ resetting.later a b (omega (arith, past));
}

-- ---- the distances from nodes that are not hit stay

-- a shortest way from there goes by what is kept
unhit_chain : (linked : Linked) (names old : List (List ℕ)) (hits : List Bool) (a : ℕ) → IsClosed old → AreHit linked names old hits → (¬ IsMarked hits a) → a < length old → (far b : ℕ) → far ≤ 254 → b < length old → cell_of old a b ≡ far → Chain (IsKept linked names old) far a b
unhit_chain linked names old hits a closed hit none first zero b low second is = chain_itself (IsKept linked names old) 0 a b (zero_cell old a b closed first second is)
unhit_chain linked names old hits a closed hit none first (suc far) b low second is =
    by (chain_last (IsNear old) far a b (subst (λ (k : ℕ). Chain (IsNear old) k a b) is ((closed.least a b first second).holds (omega (arith, is, low))))) (unhit_chain linked names old hits a closed hit none first far)
  where
    at_most : (k x : ℕ) → x < length old → Chain (IsNear old) k a x → cell_of old a x ≤ k
    at_most k x within chain = least_below farthest (λ links. Chain (IsNear old) links a x) (cell_of old a x) k (closed.least a x first within) chain

    exact : (x : ℕ) → Chain (IsNear old) far a x → IsNear old x b → cell_of old a x ≡ far
    exact x chain near =
        let most : cell_of old a x ≤ far = at_most far x near.first chain in
        let on : Chain (IsNear old) (suc (cell_of old a x)) a b = one_link_more (IsNear old) (cell_of old a x) a x b ((closed.least a x first near.first).holds (omega (arith, most, low))) near in
        let least : cell_of old a b ≤ suc (cell_of old a x) = at_most (suc (cell_of old a x)) b second on in
        omega (arith, most, least, is)

    last : (x : ℕ) → cell_of old a x ≡ far → IsKept linked names old x b ⊎ IsMarked hits a → Chain (IsKept linked names old) far a x → Chain (IsKept linked names old) (suc far) a b
    last x here (inl kept) chain = one_link_more (IsKept linked names old) far a x b chain kept
    last x here (inr marked) chain = absurd (none marked)

    by : Chain (IsNear old) far a b ⊎ ((x : ℕ) × Chain (IsNear old) far a x × IsNear old x b) → ((x : ℕ) → far ≤ 254 → x < length old → cell_of old a x ≡ far → Chain (IsKept linked names old) far a x) → Chain (IsKept linked names old) (suc far) a b
    by (inl sooner) before = let most : cell_of old a b ≤ far = at_most far b second sooner in absurd (omega (arith, most, is))
    by (inr (x, chain, near)) before =
        let here : cell_of old a x ≡ far = exact x chain near in
        last x here (hit a x b first near (omega (arith, here, is))) (before x (omega (arith, low)) near.first here)

-- ---- the square is ready to be mended

pub mending_begins : (linked : Linked) (names : List (List ℕ)) (touched : List Bool) (old : List (List ℕ)) (hits : List Bool) (upto : ℕ) (cells : List (List ℕ)) → IsBefore linked names touched old → AreHit linked names old hits → length old ≤ upto
    → IsResetting linked names old hits upto cells → IsMending linked names old hits cells
mending_begins linked names touched old hits upto cells before hit past resetting = record {
  long = resetting.long;
  square = resetting.square;
  small = λ a b first second. small a b first second (cases_Bool (get_or hits a false));
  own = λ a first. own a first (cases_Bool (get_or hits a false));
  sound = λ a b first second low. sound a b first second low (cases_Bool (get_or hits a false));
  near = λ a b kept. near a b kept (cases_Bool (get_or hits a false));
  still = λ a b k first second none few chain. still a b k first second none chain;
}
  where
    row : (a b : ℕ) → a < length old → b < length old → get_or hits a false ≡ true → (IsKept linked names old a b × (cell_of cells a b ≡ cell_of old a b)) ⊎ ((¬ IsKept linked names old a b) × (cell_of cells a b ≡ 255))
    row a b first second marked = (resetting.done a (omega (arith, first, past)) marked).each b second

    alone : (a b : ℕ) → get_or hits a false ≡ false → cell_of cells a b ≡ cell_of old a b
    alone a b unset = resetting.alone a b (unmarked hits a unset)

    small : (a b : ℕ) → a < length old → b < length old → (get_or hits a false ≡ true) ⊎ (get_or hits a false ≡ false) → cell_of cells a b ≤ 255
    small a b first second (inr unset) = omega (arith, alone a b unset, small_cell old a b before.closed first second)
    small a b first second (inl marked) = by (row a b first second marked)
      where
        by : (IsKept linked names old a b × (cell_of cells a b ≡ cell_of old a b)) ⊎ ((¬ IsKept linked names old a b) × (cell_of cells a b ≡ 255)) → cell_of cells a b ≤ 255
        by (inl (kept, same)) = omega (arith, same, small_cell old a b before.closed first second)
        by (inr (gone, same)) = omega (arith, same)

    own : (a : ℕ) → a < length old → (get_or hits a false ≡ true) ⊎ (get_or hits a false ≡ false) → cell_of cells a a ≡ 0
    own a first (inr unset) = alone a a unset ∙ own_cell old a before.closed first
    own a first (inl marked) = by (row a a first first marked)
      where
        by : (IsKept linked names old a a × (cell_of cells a a ≡ cell_of old a a)) ⊎ ((¬ IsKept linked names old a a) × (cell_of cells a a ≡ 255)) → cell_of cells a a ≡ 0
        by (inl (kept, same)) = same ∙ own_cell old a before.closed first
        by (inr (gone, same)) = absurd (gone (kept_itself linked names old a before.closed first))

    near : (a b : ℕ) → IsKept linked names old a b → (get_or hits a false ≡ true) ⊎ (get_or hits a false ≡ false) → cell_of cells a b ≤ 1
    near a b kept (inr unset) = let low = kept.near.near in omega (arith, alone a b unset, low)
    near a b kept (inl marked) = by (row a b kept.near.first kept.near.second marked)
      where
        by : (IsKept linked names old a b × (cell_of cells a b ≡ cell_of old a b)) ⊎ ((¬ IsKept linked names old a b) × (cell_of cells a b ≡ 255)) → cell_of cells a b ≤ 1
        by (inl (here, same)) = let low = kept.near.near in omega (arith, same, low)
        by (inr (gone, same)) = absurd (gone kept)

    short : (a b far : ℕ) → IsKept linked names old a b → cell_of old a b ≡ far → Chain (IsKept linked names old) far a b
    short a b zero kept is = chain_itself (IsKept linked names old) 0 a b (zero_cell old a b before.closed kept.near.first kept.near.second is)
    short a b (suc zero) kept is = one_link (IsKept linked names old) a b kept
    short a b (suc (suc far)) kept is = let low = kept.near.near in absurd (omega (arith, low, is))

    sound : (a b : ℕ) → a < length old → b < length old → cell_of cells a b ≤ 254 → (get_or hits a false ≡ true) ⊎ (get_or hits a false ≡ false) → Chain (IsKept linked names old) (cell_of cells a b) a b
    sound a b first second low (inr unset) = unhit_chain linked names old hits a before.closed hit (unmarked hits a unset) first (cell_of cells a b) b low second (sym (alone a b unset))
    sound a b first second low (inl marked) = by (row a b first second marked)
      where
        by : (IsKept linked names old a b × (cell_of cells a b ≡ cell_of old a b)) ⊎ ((¬ IsKept linked names old a b) × (cell_of cells a b ≡ 255)) → Chain (IsKept linked names old) (cell_of cells a b) a b
        by (inl (kept, same)) = short a b (cell_of cells a b) kept (sym same)
        by (inr (gone, same)) = absurd (omega (arith, same, low))

    still : (a b k : ℕ) → a < length old → b < length old → (¬ IsMarked hits a) → Chain (IsKept linked names old) k a b → cell_of cells a b ≤ k
    still a b k first second none chain =
        let low : cell_of old a b ≤ k =
        least_below farthest (λ links. Chain (IsNear old) links a b) (cell_of old a b) k (before.closed.least a b first second) (chain_weaker (IsKept linked names old) (IsNear old) k a b (λ c d kept. kept.near) chain) in
        omega (arith, low, resetting.alone a b none)

-- ---- a row is lowered by way of another

pub lowered_own : (cells new : List (List ℕ)) (a v b : ℕ) → IsSquare cells → a < length cells → v < length cells → b < length cells → new ≡ relaxed cells a 1 v → cell_of new a b ≡ min (cell_of cells a b) (sum_of 1 (cell_of cells v b))
lowered_own cells new a v b square first second within is = ap (λ (l : List (List ℕ)). cell_of l a b) is ∙ relaxed_own cells a 1 v b square first second within

pub lowered_other : (cells new : List (List ℕ)) (a v i b : ℕ) → i ≢ a → new ≡ relaxed cells a 1 v → cell_of new i b ≡ cell_of cells i b
lowered_other cells new a v i b differ is = ap (λ (l : List (List ℕ)). cell_of l i b) is ∙ relaxed_other cells a 1 v i b differ

pub lowered_long : (cells new : List (List ℕ)) (a v : ℕ) → new ≡ relaxed cells a 1 v → length new ≡ length cells
lowered_long cells new a v is = ap (λ (l : List (List ℕ)). length l) is ∙ length-set cells a (lowered 1 (row_of cells a) (row_of cells v))

-- what is lowered tells no less than there is
pub mending_by : (linked : Linked) (names old : List (List ℕ)) (hits : List Bool) (node next : ℕ) (cells new : List (List ℕ)) → IsMarked hits node → node < length cells → next < length cells → cell_of cells node next ≡ 1 → length new ≡ length cells → IsSquare new
    → ((b : ℕ) → b < length cells → cell_of new node b ≡ min (cell_of cells node b) (sum_of 1 (cell_of cells next b))) → ((a b : ℕ) → a ≢ node → cell_of new a b ≡ cell_of cells a b) → IsMending linked names old hits cells → IsMending linked names old hits new
mending_by linked names old hits node next cells new marked first_now second_now one long square lowers others mending = record {
  long = long ∙ mending.long;
  square = square;
  small = λ a b within inside. omega (arith, lower a b within inside, mending.small a b within inside);
  own = λ a within. let low = lower a a within within in let none = mending.own a within in omega (arith, low, none);
  sound = λ a b within inside low. sound a b within inside low (cases_eq a node);
  near = λ a b kept. let low = lower a b kept.near.first kept.near.second in let before = mending.near a b kept in omega (arith, low, before);
  still = λ a b k within inside none few chain. let low = lower a b within inside in let before = mending.still a b k within inside none few chain in omega (arith, low, before);
}
  where
    Kept : ℕ → ℕ → Type 0
    Kept = IsKept linked names old

    inside_now : (b : ℕ) → b < length old → b < length cells
    inside_now b within = omega (arith, within, mending.long)

    lower : (a b : ℕ) → a < length old → b < length old → cell_of new a b ≤ cell_of cells a b
    lower a b within inside = by (cases_eq a node)
      where
        by : (a ≡ node) ⊎ (a ≡ node → ⊥) → cell_of new a b ≤ cell_of cells a b
        by (inl same) = subst (λ (n : ℕ). cell_of new n b ≤ cell_of cells n b) (sym same) (let is = lowers b (inside_now b inside) in omega (arith, is))
        by (inr differ) = omega (arith, others a b differ)

    -- by way of the other, or as before
    here : (b : ℕ) → b < length old → cell_of new node b ≤ 254 → Chain Kept (cell_of new node b) node b
    here b inside low = by (cases_lt (sum_of 1 (cell_of cells next b)) (cell_of cells node b)) (cases_sum 1 (cell_of cells next b))
      where
        is : cell_of new node b ≡ min (cell_of cells node b) (sum_of 1 (cell_of cells next b))
        is = lowers b (inside_now b inside)

        by : (sum_of 1 (cell_of cells next b) < cell_of cells node b) ⊎ (cell_of cells node b ≤ sum_of 1 (cell_of cells next b))
            → ((1 + cell_of cells next b ≤ 254) × (sum_of 1 (cell_of cells next b) ≡ 1 + cell_of cells next b)) ⊎ ((254 < 1 + cell_of cells next b) × (sum_of 1 (cell_of cells next b) ≡ 255)) → Chain Kept (cell_of new node b) node b
        by (inr before) which =
            let same : cell_of new node b ≡ cell_of cells node b = omega (arith, is, before) in
            subst (λ (k : ℕ). Chain Kept k node b) (sym same) (mending.sound node b (omega (arith, first_now, mending.long)) inside (omega (arith, same, low)))
        by (inl less) (inl (small, sum)) =
            let same : cell_of new node b ≡ 1 + cell_of cells next b = omega (arith, is, less, sum) in
            let link : Chain Kept 1 node next = subst (λ (k : ℕ). Chain Kept k node next) one (mending.sound node next (omega (arith, first_now, mending.long)) (omega (arith, second_now, mending.long)) (omega (arith, one))) in
            subst (λ (k : ℕ). Chain Kept k node b) (sym same) (chain_joined Kept 1 (cell_of cells next b) node next b link (mending.sound next b (omega (arith, second_now, mending.long)) inside (omega (arith, small))))
        by (inl less) (inr (large, sum)) = absurd (omega (arith, is, less, sum, low))

    sound : (a b : ℕ) → a < length old → b < length old → cell_of new a b ≤ 254 → (a ≡ node) ⊎ (a ≡ node → ⊥) → Chain Kept (cell_of new a b) a b
    sound a b within inside low (inl same) = subst (λ (n : ℕ). Chain Kept (cell_of new n b) n b) (sym same) (here b inside (subst (λ (n : ℕ). cell_of new n b ≤ 254) same low))
    sound a b within inside low (inr differ) =
        let as_before = others a b differ in subst (λ (k : ℕ). Chain Kept k a b) (sym as_before) (mending.sound a b within inside (omega (arith, as_before, low)))

-- the row of a node, lowered by way of what is near before a place
pub record IsByRow (linked : Linked) (names old : List (List ℕ)) (hits : List Bool) (node upto : ℕ) (first cells : List (List ℕ)) : Type 0 where
  pub mending : IsMending linked names old hits cells
  pub by : (next b : ℕ) → next < upto → IsKept linked names old node next → node ≢ next → b < length first → cell_of cells node b ≤ sum_of 1 (cell_of first next b)

pub by_row_begins : (linked : Linked) (names old : List (List ℕ)) (hits : List Bool) (node : ℕ) (first : List (List ℕ)) → IsMending linked names old hits first → IsByRow linked names old hits node 0 first first
by_row_begins linked names old hits node first mending = record { mending = mending; by = λ next b low. absurd (omega (arith, low)) }

pub by_row_skips : (linked : Linked) (names old : List (List ℕ)) (hits : List Bool) (node at : ℕ) (first cells : List (List ℕ)) → (IsKept linked names old node at → node ≢ at → ⊥) → IsByRow linked names old hits node at first cells → IsByRow linked names old hits node (at + 1) first cells
by_row_skips linked names old hits node at first cells none row = record {
  mending = row.mending;
  by = λ next b low kept differ inside. next_place (λ n. IsKept linked names old node n → node ≢ n → cell_of cells node b ≤ sum_of 1 (cell_of first n b)) at (λ n less here other. row.by n b less here other inside) (λ here other. absurd (none here other)) next low kept differ;
}

-- what is kept and another node is one link away
pub kept_one : (linked : Linked) (names old : List (List ℕ)) (hits : List Bool) (node at far : ℕ) (cells : List (List ℕ)) → IsMending linked names old hits cells → far ≡ cell_of cells node at → (far ≡ 1 → ⊥) → IsKept linked names old node at → node ≢ at → ⊥
kept_one linked names old hits node at far cells mending is differ kept apart =
    let low = mending.near node at kept in
    let none : cell_of cells node at ≡ 0 = omega (arith, low, is, differ) in
    apart
    (chain_none (IsKept linked names old) node at
    (subst (λ (k : ℕ). Chain (IsKept linked names old) k node at) none (mending.sound node at kept.near.first kept.near.second (omega (arith, none)))))

pub by_row_more : (linked : Linked) (names old : List (List ℕ)) (hits : List Bool) (node at : ℕ) (first cells new : List (List ℕ)) → IsMarked hits node → node < length cells → at < length cells → cell_of cells node at ≡ 1 → length cells ≡ length first → length new ≡ length cells → IsSquare new
    → ((b : ℕ) → b < length cells → cell_of new node b ≡ min (cell_of cells node b) (sum_of 1 (cell_of cells at b))) → ((a b : ℕ) → a ≢ node → cell_of new a b ≡ cell_of cells a b) → ((a b : ℕ) → a ≢ node → cell_of cells a b ≡ cell_of first a b)
    → IsByRow linked names old hits node at first cells → IsByRow linked names old hits node (at + 1) first new
by_row_more linked names old hits node at first cells new marked within inside one long_first long square lowers others stay row = record {
  mending = mending_by linked names old hits node at cells new marked within inside one long square lowers others row.mending;
  by = λ next b low kept differ low_b. next_place (λ n. IsKept linked names old node n → node ≢ n → cell_of new node b ≤ sum_of 1 (cell_of first n b)) at
      (λ n less here other. let is = lowers b (omega (arith, low_b, long_first)) in let before = row.by n b less here other low_b in omega (arith, is, before))
      (λ here other. let is = lowers b (omega (arith, low_b, long_first)) in let same : sum_of 1 (cell_of cells at b) ≡ sum_of 1 (cell_of first at b) = ap (sum_of 1) (stay at b (λ e. apart (sym e))) in omega (arith, is, same)) next low kept differ;
}
  where
    apart : node ≡ at → ⊥
    apart same =
        let none = row.mending.own node (omega (arith, within, row.mending.long)) in
        let here : cell_of cells node node ≡ cell_of cells node at = ap (cell_of cells node) same in
        absurd (omega (arith, none, here, one))

pub by_row_ends : (linked : Linked) (names old : List (List ℕ)) (hits : List Bool) (node upto : ℕ) (first cells : List (List ℕ)) → length first ≤ upto → length first ≡ length old → IsByRow linked names old hits node upto first cells
    → (next b : ℕ) → IsKept linked names old node next → node ≢ next → b < length first → cell_of cells node b ≤ sum_of 1 (cell_of first next b)
by_row_ends linked names old hits node upto first cells past long row next b kept differ inside = row.by next b (let last = kept.near.second in omega (arith, last, past, long)) kept differ inside

-- ---- a row that does not become lower

-- the row of a node is not lower by way of any before a place, where it is as it was first
abbrev pub IsLowBefore : ℕ → ℕ → List (List ℕ) → List (List ℕ) → Type 0
IsLowBefore node upto first cells = ((b : ℕ) → b < length first → cell_of cells node b ≡ cell_of first node b) → (next b : ℕ) → next < upto → cell_of first node next ≡ 1 → b < length first → cell_of first node b ≤ sum_of 1 (cell_of first next b)

pub low_skips : (node at far : ℕ) (first cells : List (List ℕ)) → at < length first → far ≡ cell_of cells node at → (far ≡ 1 → ⊥) → IsLowBefore node at first cells → IsLowBefore node (at + 1) first cells
low_skips node at far first cells within is differ low = λ same next b less one inside.
    next_place (λ n. cell_of first node n ≡ 1 → cell_of first node b ≤ sum_of 1 (cell_of first n b)) at (λ n before here. low same n b before here inside) (λ here. absurd (differ (is ∙ same at within ∙ here))) next less one

pub low_more : (node at : ℕ) (first cells new : List (List ℕ)) → length cells ≡ length first → ((b : ℕ) → b < length cells → cell_of new node b ≡ min (cell_of cells node b) (sum_of 1 (cell_of cells at b))) → ((a b : ℕ) → a ≢ node → cell_of cells a b ≡ cell_of first a b)
    → ((b : ℕ) → b < length first → cell_of cells node b ≤ cell_of first node b) → IsLowBefore node at first cells → IsLowBefore node (at + 1) first new
low_more node at first cells new long lowers others lower low = λ same next b less one inside.
    next_place (λ n. cell_of first node n ≡ 1 → cell_of first node b ≤ sum_of 1 (cell_of first n b)) at (λ n before here. low (λ k within. as_before k within (same k within)) n b before here inside) (λ here. by b inside (same b inside)) next less one
  where
    as_before : (b : ℕ) → b < length first → cell_of new node b ≡ cell_of first node b → cell_of cells node b ≡ cell_of first node b
    as_before b inside same = let is = lowers b (omega (arith, inside, long)) in let most = lower b inside in omega (arith, is, same, most)

    there : (b : ℕ) → cell_of cells node b ≡ cell_of first node b → (at ≡ node) ⊎ (at ≡ node → ⊥) → cell_of cells at b ≡ cell_of first at b
    there b here (inl alike) = subst (λ (n : ℕ). cell_of cells n b ≡ cell_of first n b) (sym alike) here
    there b here (inr differ) = others at b differ

    by : (b : ℕ) → b < length first → cell_of new node b ≡ cell_of first node b → cell_of first node b ≤ sum_of 1 (cell_of first at b)
    by b inside same =
        let is = lowers b (omega (arith, inside, long)) in
        let sum : sum_of 1 (cell_of cells at b) ≡ sum_of 1 (cell_of first at b) = ap (sum_of 1) (there b (as_before b inside same) (cases_eq at node)) in
        omega (arith, is, same, sum)

-- the row of the node is as it was, and so are the others
pub all_same : (node a b : ℕ) (old new : List (List ℕ)) → ((i j : ℕ) → i ≢ node → cell_of new i j ≡ cell_of old i j) → cell_of new node b ≡ cell_of old node b → cell_of new a b ≡ cell_of old a b
all_same node a b old new others same = by (cases_eq a node)
  where
    by : (a ≡ node) ⊎ (a ≡ node → ⊥) → cell_of new a b ≡ cell_of old a b
    by (inl alike) = subst (λ (n : ℕ). cell_of new n b ≡ cell_of old n b) (sym alike) same
    by (inr differ) = others a b differ

-- a row is as low where the cells are the same
pub stable_moved : (old new : List (List ℕ)) (a : ℕ) → length new ≡ length old → a < length old → ((i j : ℕ) → i < length old → j < length old → cell_of new i j ≡ cell_of old i j) → IsStableAt old a → IsStableAt new a
stable_moved old new a long within same stable = λ next b less one inside.
    let first : next < length old = omega (arith, less, long) in
    let second : b < length old = omega (arith, inside, long) in
    let before = stable next b first (sym (same a next within first) ∙ one) second in
    let sum : sum_of 1 (cell_of new next b) ≡ sum_of 1 (cell_of old next b) = ap (sum_of 1) (same next b first second) in
    omega (arith, before, sum, same a b within second)

-- the rows of marked nodes before a place, lowered by way of what is near
pub record IsByAll (linked : Linked) (names old : List (List ℕ)) (hits : List Bool) (upto : ℕ) (first cells : List (List ℕ)) : Type 0 where
  pub mending : IsMending linked names old hits cells
  pub by : (a next b : ℕ) → a < upto → IsMarked hits a → IsKept linked names old a next → a ≢ next → b < length first → cell_of cells a b ≤ sum_of 1 (cell_of first next b)

pub by_all_begins : (linked : Linked) (names old : List (List ℕ)) (hits : List Bool) (first : List (List ℕ)) → IsMending linked names old hits first → IsByAll linked names old hits 0 first first
by_all_begins linked names old hits first mending = record { mending = mending; by = λ a next b low. absurd (omega (arith, low)) }

pub by_all_skips : (linked : Linked) (names old : List (List ℕ)) (hits : List Bool) (node : ℕ) (first cells : List (List ℕ)) → (¬ IsMarked hits node) → IsByAll linked names old hits node first cells → IsByAll linked names old hits (node + 1) first cells
by_all_skips linked names old hits node first cells none all = record {
  mending = all.mending;
  by = λ a next b low marked kept differ inside.
      next_place (λ n. IsMarked hits n → IsKept linked names old n next → n ≢ next → cell_of cells n b ≤ sum_of 1 (cell_of first next b)) node (λ n less hit here other. all.by n next b less hit here other inside) (λ hit here other. absurd (none hit)) a low marked kept differ;
}

pub by_all_more : (linked : Linked) (names old : List (List ℕ)) (hits : List Bool) (node : ℕ) (first cells new : List (List ℕ)) → IsMarked hits node → length cells ≡ length first → IsMending linked names old hits new
    → ((a b : ℕ) → a < length cells → b < length cells → cell_of new a b ≤ cell_of cells a b) → ((a b : ℕ) → a < length first → b < length first → cell_of cells a b ≤ cell_of first a b)
    → ((next b : ℕ) → IsKept linked names old node next → node ≢ next → b < length cells → cell_of new node b ≤ sum_of 1 (cell_of cells next b)) → IsByAll linked names old hits node first cells → IsByAll linked names old hits (node + 1) first new
by_all_more linked names old hits node first cells new marked long mending lower lower_first own all = record {
  mending = mending;
  by = λ a next b low hit kept differ inside. next_place (λ n. IsMarked hits n → IsKept linked names old n next → n ≢ next → cell_of new n b ≤ sum_of 1 (cell_of first next b)) node
      (λ n less mark here other.
      let first_n = here.near.first in
      let less_now = lower n b (omega (arith, first_n, all.mending.long)) (omega (arith, inside, long)) in
      let before = all.by n next b less mark here other inside in
      omega (arith, less_now, before))
      (λ mark here other.
      let last = here.near.second in
      let less_now = own next b here other (omega (arith, inside, long)) in
      let rises = sum_rises (cell_of cells next b) (cell_of first next b) (lower_first next b (omega (arith, last, long, all.mending.long)) inside) in
      omega (arith, less_now, rises)) a low hit kept differ;
}

-- ---- what is told

pub told_begins : (linked : Linked) (names old : List (List ℕ)) (hits : List Bool) (cells : List (List ℕ)) → IsMending linked names old hits cells → AreTold linked names old 1 cells
unfolding Chain
told_begins linked names old hits cells mending = λ a b k first second low few chain. by a b first k low chain
  where
    own : (a b : ℕ) → a < length old → a ≡ b → cell_of cells a b ≡ 0
    own a b first same = ap (cell_of cells a) (sym same) ∙ mending.own a first

    by : (a b : ℕ) → a < length old → (k : ℕ) → k ≤ 1 → Chain (IsKept linked names old) k a b → cell_of cells a b ≤ k
    by a b first zero low same = omega (arith, own a b first same)
    by a b first (suc zero) low (inl same) = omega (arith, own a b first same)
    by a b first (suc zero) low (inr (next, kept, same)) = let near = mending.near a next kept in let here : cell_of cells a next ≡ cell_of cells a b = ap (cell_of cells a) same in omega (arith, near, here)
    by a b first (suc (suc k)) low chain = absurd (omega (arith, low))

-- what is lower tells as much
pub told_lower : (linked : Linked) (names old : List (List ℕ)) (most : ℕ) (cells new : List (List ℕ)) → length cells ≡ length old → ((a b : ℕ) → a < length cells → b < length cells → cell_of new a b ≤ cell_of cells a b) → AreTold linked names old most cells → AreTold linked names old most new
told_lower linked names old most cells new long lower told = λ a b k first second low few chain.
    let less = lower a b (omega (arith, first, long)) (omega (arith, second, long)) in let before = told a b k first second low few chain in omega (arith, less, before)

-- one level more
pub told_more : (linked : Linked) (names old : List (List ℕ)) (hits : List Bool) (most upto : ℕ) (first cells : List (List ℕ)) → length first ≤ upto → IsMending linked names old hits first → ((a b : ℕ) → a < length first → b < length first → cell_of cells a b ≤ cell_of first a b)
    → IsByAll linked names old hits upto first cells → AreTold linked names old most first → AreTold linked names old (most + 1) cells
unfolding Chain
told_more linked names old hits most upto first cells past mending lower all told = λ a b k inside within low few chain. by a b inside within k low few chain
  where
    own : (a b : ℕ) → a < length old → a ≡ b → cell_of cells a b ≡ 0
    own a b inside same = ap (cell_of cells a) (sym same) ∙ all.mending.own a inside

    step : (a b next k : ℕ) → a < length old → b < length old → suc k ≤ most + 1 → suc k ≤ 254 → IsKept linked names old a next → Chain (IsKept linked names old) k next b → (get_or hits a false ≡ true) ⊎ (get_or hits a false ≡ false) → (a ≡ next) ⊎ (a ≡ next → ⊥) → cell_of cells a b ≤ suc k
    step a b next k inside within low few kept chain (inr unset) which = all.mending.still a b (suc k) inside within (unmarked hits a unset) few (inr (next, kept, chain))
    step a b next k inside within low few kept chain (inl marked) (inl same) =
        let before = told next b k kept.near.second within (omega (arith, low)) (omega (arith, few)) chain in
        let here : cell_of first a b ≡ cell_of first next b = ap (λ (n : ℕ). cell_of first n b) same in
        let less = lower a b (omega (arith, inside, mending.long)) (omega (arith, within, mending.long)) in
        omega (arith, before, here, less)
    step a b next k inside within low few kept chain (inl marked) (inr differ) =
        let before = told next b k kept.near.second within (omega (arith, low)) (omega (arith, few)) chain in
        let less = all.by a next b (omega (arith, inside, past, mending.long)) marked kept differ (omega (arith, within, mending.long)) in
        sum before less (cases_sum 1 (cell_of first next b))
      where
        sum : cell_of first next b ≤ k → cell_of cells a b ≤ sum_of 1 (cell_of first next b)
            → ((1 + cell_of first next b ≤ 254) × (sum_of 1 (cell_of first next b) ≡ 1 + cell_of first next b)) ⊎ ((254 < 1 + cell_of first next b) × (sum_of 1 (cell_of first next b) ≡ 255)) → cell_of cells a b ≤ suc k
        sum before less (inl (small, is)) = omega (arith, before, less, is)
        sum before less (inr (large, is)) = absurd (omega (arith, before, large, few))

    by : (a b : ℕ) → a < length old → b < length old → (k : ℕ) → k ≤ most + 1 → k ≤ 254 → Chain (IsKept linked names old) k a b → cell_of cells a b ≤ k
    by a b inside within zero low few same = omega (arith, own a b inside same)
    by a b inside within (suc k) low few (inl same) = omega (arith, own a b inside same)
    by a b inside within (suc k) low few (inr (next, kept, chain)) = step a b next k inside within low few kept chain (cases_Bool (get_or hits a false)) (cases_eq a next)

pub told_fewer : (linked : Linked) (names old : List (List ℕ)) (fewer most : ℕ) (cells : List (List ℕ)) → fewer ≤ most → AreTold linked names old most cells → AreTold linked names old fewer cells
told_fewer linked names old fewer most cells less told = λ a b k first second low few chain. told a b k first second (omega (arith, low, less)) few chain

-- where no row of a marked node is lower by way of what is near, all are told
told_at : (linked : Linked) (names old : List (List ℕ)) (hits : List Bool) (cells : List (List ℕ)) → IsMending linked names old hits cells → IsStable hits cells → (k a b : ℕ) → a < length old → b < length old → k ≤ 254 → Chain (IsKept linked names old) k a b → cell_of cells a b ≤ k
unfolding Chain
told_at linked names old hits cells mending stable zero a b first second few same = omega (arith, ap (cell_of cells a) (sym same) ∙ mending.own a first)
told_at linked names old hits cells mending stable (suc k) a b first second few (inl same) = omega (arith, ap (cell_of cells a) (sym same) ∙ mending.own a first)
told_at linked names old hits cells mending stable (suc k) a b first second few (inr (next, kept, chain)) =
    step (told_at linked names old hits cells mending stable k next b kept.near.second second (omega (arith, few)) chain) (cases_Bool (get_or hits a false)) (cases_eq (cell_of cells a next) 1)
  where
    Kept : ℕ → ℕ → Type 0
    Kept = IsKept linked names old

    sum : cell_of cells next b ≤ k → cell_of cells a b ≤ sum_of 1 (cell_of cells next b)
        → ((1 + cell_of cells next b ≤ 254) × (sum_of 1 (cell_of cells next b) ≡ 1 + cell_of cells next b)) ⊎ ((254 < 1 + cell_of cells next b) × (sum_of 1 (cell_of cells next b) ≡ 255)) → cell_of cells a b ≤ suc k
    sum before less (inl (small, is)) = omega (arith, before, less, is)
    sum before less (inr (large, is)) = absurd (omega (arith, before, large, few))

    alike : (cell_of cells a next ≡ 1 → ⊥) → a ≡ next
    alike differ =
        let low = mending.near a next kept in
        let none : cell_of cells a next ≡ 0 = omega (arith, low, differ) in
        chain_none Kept a next (subst (λ (n : ℕ). Chain Kept n a next) none (mending.sound a next first kept.near.second (omega (arith, none))))

    step : cell_of cells next b ≤ k → (get_or hits a false ≡ true) ⊎ (get_or hits a false ≡ false) → (cell_of cells a next ≡ 1) ⊎ (cell_of cells a next ≡ 1 → ⊥) → cell_of cells a b ≤ suc k
    step before (inr unset) which = mending.still a b (suc k) first second (unmarked hits a unset) few (inr (next, kept, chain))
    step before (inl marked) (inl one) =
        sum before (stable a (omega (arith, first, mending.long)) marked next b (omega (arith, kept.near.second, mending.long)) one (omega (arith, second, mending.long))) (cases_sum 1 (cell_of cells next b))
    step before (inl marked) (inr differ) = let here : cell_of cells a b ≡ cell_of cells next b = ap (λ (n : ℕ). cell_of cells n b) (alike differ) in omega (arith, here, before)

pub stable_told : (linked : Linked) (names old : List (List ℕ)) (hits : List Bool) (cells : List (List ℕ)) → IsMending linked names old hits cells → IsStable hits cells → AreTold linked names old 254 cells
stable_told linked names old hits cells mending stable = λ a b k first second low few chain. told_at linked names old hits cells mending stable k a b first second few chain

-- ---- the square is mended

one_kept : (Link : ℕ → ℕ → Type 0) (a b : ℕ) → Chain Link 1 a b → (a ≡ b) ⊎ Link a b
unfolding Chain
one_kept Link a b (inl same) = inl same
one_kept Link a b (inr (next, link, same)) = inr (subst (Link a) same link)

pub begun_mended : (linked : Linked) (names : List (List ℕ)) (touched : List Bool) (old : List (List ℕ)) (hits : List Bool) (cells : List (List ℕ)) → IsBefore linked names touched old → IsMending linked names old hits cells → AreTold linked names old 254 cells → IsBegun linked names touched cells
begun_mended linked names touched old hits cells before mending told = record {
  closed = record { square = mending.square; least = least };
  long = omega (arith, mending.long, before.long);
  fresh = λ a past within. before.fresh a (omega (arith, past, mending.long)) within;
  sound = λ a b near. (near_kept a b near).still;
  whole = λ a b first second none link. kept_near a b (record { near = before.whole a b (omega (arith, first, mending.long)) second none link; still = inr link });
}
  where
    Kept : ℕ → ℕ → Type 0
    Kept = IsKept linked names old

    same_kept : (a b : ℕ) → a < length old → a ≡ b → Kept a b
    same_kept a b first same = subst (IsKept linked names old a) same (kept_itself linked names old a before.closed first)

    either : (a b : ℕ) → a < length old → (a ≡ b) ⊎ IsKept linked names old a b → Kept a b
    either a b first (inl same) = same_kept a b first same
    either a b first (inr kept) = kept

    near_kept : (a b : ℕ) → IsNear cells a b → IsKept linked names old a b
    near_kept a b near = by (cell_of cells a b) refl
      where
        first : a < length old
        first = let here = near.first in omega (arith, here, mending.long)

        second : b < length old
        second = let here = near.second in omega (arith, here, mending.long)

        chain : (far : ℕ) → cell_of cells a b ≡ far → Chain (IsKept linked names old) far a b
        chain far is = let low = near.near in subst (λ (k : ℕ). Chain (IsKept linked names old) k a b) is (mending.sound a b first second (omega (arith, low)))

        by : (far : ℕ) → cell_of cells a b ≡ far → IsKept linked names old a b
        by zero is = same_kept a b first (chain_none (IsKept linked names old) a b (chain 0 is))
        by (suc zero) is = either a b first (one_kept (IsKept linked names old) a b (chain 1 is))
        by (suc (suc far)) is = let low = near.near in absurd (omega (arith, low, is))

    kept_near : (a b : ℕ) → IsKept linked names old a b → IsNear cells a b
    kept_near a b kept =
        let one = kept.near.first in
        let other = kept.near.second in
        record { first = omega (arith, one, mending.long); second = omega (arith, other, mending.long); near = mending.near a b kept }

    least : (a b : ℕ) → a < length cells → b < length cells → IsLeast farthest (λ links. Chain (IsNear cells) links a b) (cell_of cells a b)
    least a b one other =
        least_alike farthest (λ links. Chain (IsKept linked names old) links a b) (λ links. Chain (IsNear cells) links a b) (cell_of cells a b)
        (λ k chain. chain_weaker (IsKept linked names old) (IsNear cells) k a b (λ c d kept. kept_near c d kept) chain) (λ k chain. chain_weaker (IsNear cells) (IsKept linked names old) k a b (λ c d near. near_kept c d near) chain)
        (record {
          within = omega (arith, small);
          holds = λ low. mending.sound a b first second low;
          least = λ lower less chain. let most = told a b lower first second (omega (arith, less, small)) (omega (arith, less, small)) chain in absurd (omega (arith, less, most));
        })
      where
        first : a < length old
        first = omega (arith, one, mending.long)

        second : b < length old
        second = omega (arith, other, mending.long)

        small : cell_of cells a b ≤ 255
        small = mending.small a b first second
