-- Which distances are within a limit, cells after cells.
use Rattle.std.proofs.Common.{◌≡◌, ℕ, zero, suc, ◌+◌, ◌-◌, ◌<◌, ◌≤◌, Bool, nat_le, List, [], ◌∷◌, ◌++◌, append_assoc, length, map, get_or, set, take, drop, refl, sym, ap, ◌∙◌, arith}
use Rattle.std.specs.Prelude.{◌==◌}
use Rattle.std.proofs.lemmas.List.{drop-drop, length-map, length-take-le, take-append-drop, take-map, take_at}
use Rattle.std.proofs.lemmas.Bool.Decides.{nat_tests}
use Rattle.std.proofs.lemmas.Simd.{get_or-put_chunk_at, length-chunk, length-put_chunk, put_chunk_is, take_more_put_chunk}
use Rattle.dist_rows.proofs.FrontLemmas.{front_put, front_set, mapped_at}
use Rattle.dist_rows.specs.Helps.Rows.{fronted}
use Rattle.dist_rows.specs.Squares.{are_within}
use lib.Lanes.{chunk, put_chunk}

-- ---- a group, cell by cell

pub group_begins : (at : ℕ) (out items : List Bool) → at + length items ≤ length out → out ≡ fronted (at + 0) (put_chunk at out items) out
group_begins at out items within =
    let none : at + 0 ≡ at = omega arith in
    let front : take at (put_chunk at out items) ≡ take at out = ap (take at) (put_chunk_is at out items within) ∙ take_at (take at out) (items ++ drop (length items) (drop at out)) at (length-take-le at out (omega (arith, within))) in
    sym (take-append-drop at out) ∙ ap (λ (l : List Bool). l ++ drop at out) (sym front) ∙ ap (λ (n : ℕ). fronted n (put_chunk at out items) out) (sym none)

pub group_ends : (at n : ℕ) (out items : List Bool) → length items ≡ n → at + n ≤ length out → fronted (at + n) (put_chunk at out items) out ≡ put_chunk at out items
group_ends at n out items size within =
    let front : take (at + n) (put_chunk at out items) ≡ take at out ++ items = take_more_put_chunk at out items (at + n) (omega (arith, size)) within in
    let rest : drop (length items) (drop at out) ≡ drop (at + n) out = ap (λ (k : ℕ). drop k (drop at out)) size ∙ drop-drop n at out in
    ap (λ (l : List Bool). l ++ drop (at + n) out) front ∙ append_assoc (take at out) items (drop (at + n) out) ∙ ap (λ (l : List Bool). take at out ++ (items ++ l)) (sym rest) ∙ sym (put_chunk_is at out items (omega (arith, size, within)))

pub group_more : (at i : ℕ) (above : List ℕ) (out now after : List Bool) → at + length above ≤ length out → i < length above → now ≡ fronted (at + i) (put_chunk at out (map (λ (d : ℕ). d == 0) above)) out → after ≡ set now (at + i) (get_or above i 0 == 0)
    → after ≡ fronted (at + (i + 1)) (put_chunk at out (map (λ (d : ℕ). d == 0) above)) out
group_more at i above out now after within here is made =
    let items : List Bool = map (λ (d : ℕ). d == 0) above in
    let size : length (map (λ (d : ℕ). d == 0) above) ≡ length above = length-map above (λ (d : ℕ). d == 0) in
    let item : (get_or above i 0 == 0) ≡ get_or (put_chunk at out (map (λ (d : ℕ). d == 0) above)) (at + i) (0 == 0)
    = sym (get_or-put_chunk_at at out (map (λ (d : ℕ). d == 0) above) i (0 == 0) (omega (arith, size, here)) (omega (arith, size, within)) ∙ mapped_at (λ (d : ℕ). d == 0) above i 0 here) in
    let next : at + i + 1 ≡ at + (i + 1) = omega arith in
    front_set (at + i) (put_chunk at out (map (λ (d : ℕ). d == 0) above)) out now after (get_or above i 0 == 0) (0 == 0) (length-put_chunk at out (map (λ (d : ℕ). d == 0) above)) (omega (arith, within, here)) is item made
    ∙ ap (λ (n : ℕ). fronted n (put_chunk at out (map (λ (d : ℕ). d == 0) above)) out) next

-- ---- all cells, group by group and cell by cell

not_above : (limit d : ℕ) → (d - limit == 0) ≡ nat_le d limit
not_above limit d = grind (arith, nat_tests)

not_above_all : (limit : ℕ) (cells : List ℕ) → map (λ (d : ℕ). d == 0) (map (λ (d : ℕ). d - limit) cells) ≡ are_within limit cells
not_above_all limit [] = refl
not_above_all limit (d ∷ cells) = ap (λ (b : Bool). b ∷ map (λ (e : ℕ). e == 0) (map (λ (e : ℕ). e - limit) cells)) (not_above limit d) ∙ ap (λ (l : List Bool). nat_le d limit ∷ l) (not_above_all limit cells)

within_drop : (limit n : ℕ) (cells : List ℕ) → are_within limit (drop n cells) ≡ drop n (are_within limit cells)
within_drop limit zero cells = refl
within_drop limit (suc n) [] = refl
within_drop limit (suc n) (d ∷ cells) = within_drop limit n cells

pub within_more : (at limit : ℕ) (cells above : List ℕ) (out now after : List Bool) → length out ≡ length cells → at + 32 ≤ length cells → now ≡ fronted at (are_within limit cells) out → above ≡ map (λ (d : ℕ). d - limit) (chunk at 32 cells)
    → after ≡ put_chunk at now (map (λ (d : ℕ). d == 0) above) → after ≡ fronted (at + 32) (are_within limit cells) out
within_more at limit cells above out now after same within is read made =
    let items : map (λ (d : ℕ). d == 0) above ≡ are_within limit (chunk at 32 cells) = ap (map (λ (d : ℕ). d == 0)) read ∙ not_above_all limit (chunk at 32 cells) in
    let part : are_within limit (chunk at 32 cells) ≡ take 32 (drop at (are_within limit cells)) = sym (take-map (λ (d : ℕ). nat_le d limit) 32 (drop at cells)) ∙ ap (take 32) (within_drop limit at cells) in
    let size : length (map (λ (d : ℕ). d == 0) above) ≡ 32 = ap (λ (l : List Bool). length l) items ∙ length-map (chunk at 32 cells) (λ (d : ℕ). nat_le d limit) ∙ length-chunk at 32 cells within in
    front_put 32 at (are_within limit cells) out now after (map (λ (d : ℕ). d == 0) above) (length-map cells (λ (d : ℕ). nat_le d limit) ∙ sym same) (omega (arith, same, within)) size is (items ∙ part) made

pub within_one : (at limit : ℕ) (cells : List ℕ) (out now after : List Bool) → length out ≡ length cells → at < length cells → now ≡ fronted at (are_within limit cells) out → after ≡ set now at (nat_le (get_or cells at 0) limit)
    → after ≡ fronted (at + 1) (are_within limit cells) out
within_one at limit cells out now after same within is made =
    front_set at (are_within limit cells) out now after (nat_le (get_or cells at 0) limit) (nat_le 0 limit) (length-map cells (λ (d : ℕ). nat_le d limit) ∙ sym same) (omega (arith, same, within)) is
    (sym (mapped_at (λ (d : ℕ). nat_le d limit) cells at 0 within)) made
