-- What operations on groups of cells come to, lane by lane.
use Rattle.std.proofs.Common.{◌≡◌, ℕ, ◌+◌, ◌-◌, ◌%◌, Bool, true, false, cond, nat_lt, List, [], ◌∷◌, length, map, min, refl, ap, ap₂, ◌∙◌, Fits, w8, replicate, arith, ltb-true, ltb-false}
use Rattle.std.proofs.lemmas.Simd.{zip2_splat, zip2_splat_left}
use Rattle.dist_rows.specs.Squares.{lowered, sum_of}
use lib.Lanes.{Each1, sel_l, top, zip2}

-- the choice between two lanes by a test of both
pub chosen : (test : ℕ → ℕ → ℕ) (f : ℕ → ℕ → ℕ) → ((x y : ℕ) → Fits w8 x → Fits w8 y → cond (top 7 (test x y)) x y ≡ f x y)
    → (xs ys : List ℕ) → Each1 (Fits w8) xs → Each1 (Fits w8) ys → sel_l (map (top 7) (zip2 test xs ys)) xs ys ≡ zip2 f xs ys
chosen test f is [] ys one other = refl
chosen test f is (x ∷ xs) [] one other = refl
chosen test f is (x ∷ xs) (y ∷ ys) one other = ap₂ (λ (z : ℕ) (zs : List ℕ). z ∷ zs) (is x y one.0 other.0) (chosen test f is xs ys one.1 other.1)

-- the same, and then joined with the second lane
pub joined : (test join f : ℕ → ℕ → ℕ) → ((x y : ℕ) → Fits w8 x → Fits w8 y → join (cond (top 7 (test x y)) y x) y ≡ f x y)
    → (xs ys : List ℕ) → Each1 (Fits w8) xs → Each1 (Fits w8) ys → zip2 join (sel_l (map (top 7) (zip2 test xs ys)) ys xs) ys ≡ zip2 f xs ys
joined test join f is [] ys one other = refl
joined test join f is (x ∷ xs) [] one other = refl
joined test join f is (x ∷ xs) (y ∷ ys) one other = ap₂ (λ (z : ℕ) (zs : List ℕ). z ∷ zs) (is x y one.0 other.0) (joined test join f is xs ys one.1 other.1)

-- the same of a function of the first lane
pub joined_by : (test join f : ℕ → ℕ → ℕ) (g : ℕ → ℕ) → ((x y : ℕ) → Fits w8 x → Fits w8 y → join x (cond (top 7 (test y (g x))) y (g x)) ≡ f x y)
    → (xs ys : List ℕ) → Each1 (Fits w8) xs → Each1 (Fits w8) ys → zip2 join xs (sel_l (map (top 7) (zip2 test ys (map g xs))) ys (map g xs)) ≡ zip2 f xs ys
joined_by test join f g is [] ys one other = refl
joined_by test join f g is (x ∷ xs) [] one other = refl
joined_by test join f g is (x ∷ xs) (y ∷ ys) one other = ap₂ (λ (z : ℕ) (zs : List ℕ). z ∷ zs) (is x y one.0 other.0) (joined_by test join f g is xs ys one.1 other.1)

-- ---- one lane

pub least_one : (x y : ℕ) → cond (top 7 (cond (nat_lt x y) 255 0)) x y ≡ min x y
least_one x y = by (nat_lt x y) refl
  where
    by : (test : Bool) → nat_lt x y ≡ test → cond (top 7 (cond test 255 0)) x y ≡ min x y
    by true is = omega (arith, ltb-true x y is)
    by false is = omega (arith, ltb-false x y is)

pub above_one : (x y : ℕ) → Fits w8 x → Fits w8 y → (cond (top 7 (cond (nat_lt x y) 255 0)) y x + (256 - y)) % 256 ≡ x - y
above_one x y small few = by (nat_lt x y) refl
  where
    by : (test : Bool) → nat_lt x y ≡ test → (cond (top 7 (cond test 255 0)) y x + (256 - y)) % 256 ≡ x - y
    by true is = omega (arith, ltb-true x y is, few.fits)
    by false is = omega (arith, ltb-false x y is, small.fits, few.fits)

pub sum_one : (x y : ℕ) → Fits w8 x → Fits w8 y → (x + cond (top 7 (cond (nat_lt y (255 - x)) 255 0)) y (255 - x)) % 256 ≡ sum_of x y
sum_one x y small few = by (nat_lt y (255 - x)) refl (nat_lt 254 (x + y)) refl
  where
    by : (test : Bool) → nat_lt y (255 - x) ≡ test → (past : Bool) → nat_lt 254 (x + y) ≡ past → (x + cond (top 7 (cond test 255 0)) y (255 - x)) % 256 ≡ cond past 255 (x + y)
    by true is true was = absurd (omega (arith, ltb-true y (255 - x) is, ltb-true 254 (x + y) was))
    by true is false was = omega (arith, ltb-true y (255 - x) is, ltb-false 254 (x + y) was)
    by false is true was = omega (arith, small.fits)
    by false is false was = omega (arith, ltb-false y (255 - x) is, ltb-false 254 (x + y) was, small.fits)

-- ---- one lane everywhere

zip_sums : (add : ℕ) (xs ys : List ℕ) → zip2 min xs (map (sum_of add) ys) ≡ lowered add xs ys
zip_sums add [] ys = refl
zip_sums add (x ∷ xs) [] = refl
zip_sums add (x ∷ xs) (y ∷ ys) = ap (λ (l : List ℕ). min x (sum_of add y) ∷ l) (zip_sums add xs ys)

pub lowered_lanes : (add : ℕ) (row other sums least : List ℕ) → length other ≡ 32 → sums ≡ zip2 sum_of (replicate 32 add) other → least ≡ zip2 min row sums → least ≡ lowered add row other
lowered_lanes add row other sums least size one two =
    two ∙ ap (zip2 min row) (one ∙ zip2_splat_left sum_of add 32 other size) ∙ zip_sums add row other

pub above_lanes : (limit : ℕ) (row result : List ℕ) → length row ≡ 32 → result ≡ zip2 (λ (d e : ℕ). d - e) row (replicate 32 limit) → result ≡ map (λ (d : ℕ). d - limit) row
above_lanes limit row result size is = is ∙ zip2_splat (λ (d e : ℕ). d - e) row 32 limit size
