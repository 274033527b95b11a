-- where ids are placed
use Rattle.std.proofs.Common.{◌≡◌, ◌≢◌, ℕ, ◌<◌, ◌==◌, List, length, get_or, set, take, Option, Some, None, refl, sym, ap, arith, ◌∙◌, position, inl, inr}
use Rattle.std.proofs.lemmas.Bool.{cases_eq, cases_lt}
use Rattle.std.proofs.lemmas.List.{length-set, get_or-set_same, get_or-set_other, get_or_past, set-set}
use Rattle.row_order.specs.Helps.Cells.{live, IsPlaced, IsEmptyFrom}
use Rattle.row_order.proofs.CellLemmas.{number_is, within_cells}

pub some_of : (o : Option ℕ) → o ≢ None → (x : ℕ) × (o ≡ Some x)
some_of None h = absurd (h refl)
some_of (Some x) h = (x, refl)

pub none_of : (o : Option ℕ) → ((x : ℕ) → o ≡ Some x → ⊥) → o ≡ None
none_of None h = refl
none_of (Some x) h = absurd (h x refl)

pub stands_within : {cells : List (Option ℕ)} {tail : ℕ} → IsEmptyFrom cells tail → (c x : ℕ) → get_or cells c None ≡ Some x → c < tail
stands_within {cells} {tail} ended c x h =
    elim (cases_lt c tail) [ inl l ↦ l | inr ge ↦ (let e : get_or cells c None ≡ None = ended.empty c ge in absurd cc) ]

pub one_cell : {cells : List (Option ℕ)} {cell_of : List ℕ} → IsPlaced cells cell_of → (c x : ℕ) → get_or cells c None ≡ Some x → (k : ℕ) → get_or cells k None ≡ Some x → k ≡ c
one_cell placed c x h k g = sym (placed.named k x g) ∙ placed.named c x h

pub placed_clear : {cells : List (Option ℕ)} {cell_of : List ℕ} → IsPlaced cells cell_of → (c k x : ℕ) → get_or (set cells c None) k None ≡ Some x → get_or cells k None ≡ Some x
placed_clear {cells} placed c k x h = elim (cases_eq k c) [
  | inl e ↦ elim (cases_lt c (length cells)) [
    | inl l ↦ (let g : get_or (set cells c None) k None ≡ None = rw e (get_or-set_same cells c None None l) in absurd cc)
    | inr past ↦ (let g : get_or (set cells c None) k None ≡ None = get_or_past (set cells c None) k None (omega (arith, length-set cells c None)) in absurd cc)
  ]
  | inr ne ↦ sym (get_or-set_other cells c k None None ne) ∙ h
]

pub placed_cleared : {cells : List (Option ℕ)} {cell_of : List ℕ} → IsPlaced cells cell_of → (c : ℕ) → IsPlaced (set cells c None) cell_of
placed_cleared {cells} {cell_of} placed c = record {
  within = λ k x h. placed.within k x (placed_clear placed c k x h);
  named = λ k x h. placed.named k x (placed_clear placed c k x h);
}

pub none_cleared : {cells : List (Option ℕ)} {cell_of : List ℕ} → IsPlaced cells cell_of → (c x : ℕ) → get_or cells c None ≡ Some x → (k : ℕ) → get_or (set cells c None) k None ≢ Some x
none_cleared {cells} placed c x h k g =
    let e : k ≡ c = one_cell placed c x h k (placed_clear placed c k x g) in
    let n : get_or (set cells c None) k None ≡ None = rw e (get_or-set_same cells c None None (within_cells cells c x h)) in
    absurd cc

pub empty_cleared : {cells : List (Option ℕ)} {tail : ℕ} → IsEmptyFrom cells tail → (c : ℕ) → c < tail → IsEmptyFrom (set cells c None) tail
empty_cleared {cells} {tail} ended c l = record {
  empty = λ k h. (let ne : k ≢ c = omega arith in get_or-set_other cells c k None None ne ∙ ended.empty k h);
}

-- an id is put behind the others
pub placed_put : {cells : List (Option ℕ)} {cell_of : List ℕ} → IsPlaced cells cell_of → (to id : ℕ) → to < length cells → id < length cell_of →
    ((k : ℕ) → get_or cells k None ≢ Some id) → IsPlaced (set cells to (Some id)) (set cell_of id to)
placed_put {cells} {cell_of} placed to id l m none = record {
  within = λ k x h. elim (cases_eq k to) [
    | inl e ↦ (let g : get_or (set cells to (Some id)) k None ≡ Some id = rw e (get_or-set_same cells to (Some id) None l) in
        let s : Some id ≡ Some x = sym g ∙ h in let t : id ≡ x = cc in omega (arith, length-set cell_of id to))
    | inr ne ↦ omega (arith, length-set cell_of id to, placed.within k x (sym (get_or-set_other cells to k (Some id) None ne) ∙ h))
  ];
  named = λ k x h. elim (cases_eq k to) [
    | inl e ↦ (let g : get_or (set cells to (Some id)) k None ≡ Some id = rw e (get_or-set_same cells to (Some id) None l) in
        let s : Some id ≡ Some x = sym g ∙ h in let t : id ≡ x = cc in rw (← t) (get_or-set_same cell_of id to 0 m ∙ sym e))
    | inr ne ↦ (let old : get_or cells k None ≡ Some x = sym (get_or-set_other cells to k (Some id) None ne) ∙ h in
        let other : x ≢ id = λ e. none k (old ∙ ap Some e) in
        get_or-set_other cell_of id x to 0 other ∙ placed.named k x old)
  ];
}

pub new_in_cells : {cells : List (Option ℕ)} {cell_of : List ℕ} → IsPlaced cells cell_of → (x : ℕ) → position (λ y. y == x) (live cells) ≡ None → (k : ℕ) → get_or cells k None ≢ Some x
new_in_cells {cells} placed x none k h =
    let e : position (λ y. y == x) (live cells) ≡ Some (length (live (take k cells))) = number_is cells k x h (one_cell placed k x h) in
    absurd cc

-- an id is written over another
pub placed_renamed : {cells : List (Option ℕ)} {cell_of : List ℕ} → IsPlaced cells cell_of → (c x y : ℕ) → get_or cells c None ≡ Some x → y < length cell_of →
    ((k : ℕ) → get_or cells k None ≢ Some y) → IsPlaced (set cells c (Some y)) (set cell_of y c)
placed_renamed {cells} {cell_of} placed c x y h m none =
    let l : c < length cells = within_cells cells c x h in
    let p : IsPlaced (set (set cells c None) c (Some y)) (set cell_of y c) =
    placed_put (placed_cleared placed c) c y (omega (arith, l, length-set cells c None)) m (λ k g. none k (placed_clear placed c k y g)) in
    rw (set-set cells c None (Some y)) at p
