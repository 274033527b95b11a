-- Commas and quotes, looked for in groups of bytes.
use Rattle.std.proofs.Common.{◌≡◌, ◌≢◌, ℕ, zero, suc, ◌+◌, ◌-◌, ◌*◌, ◌%◌, ◌^◌, ◌≤◌, ◌||◌, Bool, true, false, not, cond, List, [], ◌∷◌, length, eqb, map, replicate, take, drop, take-append-drop, refl, sym, ap, ◌∙◌, arith, w8}
use Rattle.std.specs.Int.Count.{count_trailing_zeros}
use Rattle.std.specs.List.{list_any, prefix_len}
use Rattle.std.proofs.lemmas.List.Folds.{list_any-append}
use Rattle.perm_base.proofs.PlainLemmas.{or_left, or_right}
use Rattle.std.proofs.lemmas.Bool.{ne_eqb, or_parts}
use Rattle.std.proofs.lemmas.List.{take_rest}
use Rattle.std.proofs.Math.Seq.{take-add}
use Rattle.std.proofs.lemmas.Simd.{bitmask_splat, first_set_mask_l, length-chunk}
use lib.Lanes.{chunk, mask_l, top, zip2}

-- a mask is not 0 where a lane passes
mask_step : (b : Bool) (mask : ℕ) (any : Bool) → not (eqb mask 0) ≡ any → not (eqb (cond b 1 0 + 2 * mask) 0) ≡ (b || any)
mask_step true mask any rest = ap not (ne_eqb (1 + 2 * mask) 0 (λ e. absurd (omega (arith, e))))
mask_step false zero any rest = rest
mask_step false (suc mask) any rest = ap not (ne_eqb (0 + 2 * suc mask) 0 (λ e. absurd (omega (arith, e))) ∙ sym (ne_eqb (suc mask) 0 (λ e. absurd (omega (arith, e))))) ∙ rest

mask_any : (p : ℕ → Bool) (xs : List ℕ) → not (eqb (mask_l (map p xs)) 0) ≡ list_any p xs
mask_any p [] = refl
mask_any p (x ∷ xs) = mask_step (p x) (mask_l (map p xs)) (list_any p xs) (mask_any p xs)

-- one of a group of bytes passes a test beside this one
pub group_any : (test : ℕ → ℕ → Bool) (byte at n : ℕ) (bytes : List ℕ) → n ≤ 64 → at + n ≤ length bytes
    → not (eqb (mask_l (map (top 7) (zip2 (λ (a b : ℕ). cond (test a b) 255 0) (chunk at n bytes) (replicate n byte))) % 2 ^ 64) 0) ≡ list_any (λ (b : ℕ). test b byte) (chunk at n bytes)
group_any test byte at n bytes few room =
    ap (λ (mask : ℕ). not (eqb mask 0)) (bitmask_splat w8 test (chunk at n bytes) n byte (length-chunk at n bytes room) few) ∙ mask_any (λ (b : ℕ). test b byte) (chunk at n bytes)

-- how many of a group of bytes stand before the first that passes a test beside this one
pub group_front : (test : ℕ → ℕ → Bool) (byte at n : ℕ) (bytes : List ℕ) (mask front : ℕ) → n ≤ 64 → at + n ≤ length bytes
    → mask ≡ mask_l (map (top 7) (zip2 (λ (a b : ℕ). cond (test a b) 255 0) (chunk at n bytes) (replicate n byte))) % 2 ^ 64
    → mask ≢ 0 → front ≡ count_trailing_zeros 64 mask → front ≡ prefix_len (λ (b : ℕ). not (test b byte)) (chunk at n bytes)
group_front test byte at n bytes mask front few room is some first =
    first
    ∙ ap (λ (b : Bool). cond b n (count_trailing_zeros 64 mask)) (sym (ne_eqb mask 0 some))
    ∙ ap (λ (m : ℕ). cond (eqb m 0) n (count_trailing_zeros 64 m)) (is ∙ bitmask_splat w8 test (chunk at n bytes) n byte (length-chunk at n bytes room) few)
    ∙ first_set_mask_l (λ (b : ℕ). test b byte) (chunk at n bytes) n (length-chunk at n bytes room) few

-- what a part holds, the whole holds
pub any_by_parts : (p : ℕ → Bool) (at : ℕ) (xs : List ℕ) → list_any p xs ≡ (list_any p (take at xs) || list_any p (drop at xs))
any_by_parts p at xs = ap (list_any p) (sym (take-append-drop at xs)) ∙ list_any-append p (take at xs) (drop at xs)

pub any_in_group : (p : ℕ → Bool) (at n : ℕ) (xs : List ℕ) → list_any p (chunk at n xs) ≡ true → list_any p xs ≡ true
any_in_group p at n xs is =
    any_by_parts p at xs ∙ or_right (list_any p (take at xs)) (list_any p (drop at xs)) (any_by_parts p n (drop at xs) ∙ or_left (list_any p (take n (drop at xs))) (list_any p (drop n (drop at xs))) is)

-- a front that is longer by a group
pub none_longer : (p : ℕ → Bool) (at n : ℕ) (xs : List ℕ) → list_any p (take at xs) ≡ false → list_any p (chunk at n xs) ≡ false → list_any p (take (at + n) xs) ≡ false
none_longer p at n xs front group = ap (list_any p) (take-add at n xs) ∙ list_any-append p (take at xs) (chunk at n xs) ∙ ap (λ (b : Bool). b || list_any p (chunk at n xs)) front ∙ group

-- the last group, where a front that reaches into it holds none
pub any_in_last : (p : ℕ → Bool) (at n : ℕ) (xs : List ℕ) → n ≤ length xs → length xs ≤ at + n → list_any p (take at xs) ≡ false → list_any p (chunk (length xs - n) n xs) ≡ list_any p xs
any_in_last p at n xs room near front =
    let from = length xs - n in
    let size : length xs - from ≡ n = omega arith in
    let last : chunk from n xs ≡ drop from xs = ap (λ (m : ℕ). take m (drop from xs)) (sym size) ∙ take_rest xs from in
    let reach : at ≡ from + (at - from) = omega arith in
    let parts : list_any p (take at xs) ≡ (list_any p (take from xs) || list_any p (chunk from (at - from) xs)) = ap (λ (m : ℕ). list_any p (take m xs)) reach ∙ ap (list_any p) (take-add from (at - from) xs) ∙ list_any-append p (take from xs) (chunk from (at - from) xs) in
    let none = (or_parts (list_any p (take from xs)) (list_any p (chunk from (at - from) xs)) (sym parts ∙ front)).0 in
    ap (list_any p) last ∙ sym (any_by_parts p from xs ∙ ap (λ (b : Bool). b || list_any p (drop from xs)) none)
