-- Two lists, place by place.
use Rattle.std.proofs.Common.{◌≡◌, ℕ, ◌+◌, ◌<◌, List, [], ◌∷◌, ◌++◌, drop, get_or, length, take, refl, sym, ap, ◌∙◌, subst, arith}
use Rattle.std.specs.List.{AllZip}
use Rattle.std.proofs.lemmas.List.{take-append-drop, take_more}

pub zip_append : {X Y : Type 0} (R : X → Y → Type 0) (xs front : List X) (ys back : List Y) → AllZip R xs ys → AllZip R front back → AllZip R (xs ++ front) (ys ++ back)
zip_append R [] front [] back one other = other
zip_append R [] front (y ∷ ys) back one other = absurd one
zip_append R (x ∷ xs) front [] back one other = absurd one
zip_append R (x ∷ xs) front (y ∷ ys) back one other = (one.0, zip_append R xs front ys back one.1 other)

pub zip_weaker : {X Y : Type 0} (R S : X → Y → Type 0) (xs : List X) (ys : List Y) → ((x : X) (y : Y) → R x y → S x y) → AllZip R xs ys → AllZip S xs ys
zip_weaker R S [] [] weaker each = tt
zip_weaker R S [] (y ∷ ys) weaker each = absurd each
zip_weaker R S (x ∷ xs) [] weaker each = absurd each
zip_weaker R S (x ∷ xs) (y ∷ ys) weaker each = (weaker x y each.0, zip_weaker R S xs ys weaker each.1)

pub zip_length : {X Y : Type 0} (R : X → Y → Type 0) (xs : List X) (ys : List Y) → AllZip R xs ys → length ys ≡ length xs
zip_length R [] [] each = refl
zip_length R [] (y ∷ ys) each = absurd each
zip_length R (x ∷ xs) [] each = absurd each
zip_length R (x ∷ xs) (y ∷ ys) each = omega (arith, zip_length R xs ys each.1)

-- each has one
pub zip_some : {X Y : Type 0} (R : X → Y → Type 0) → ((x : X) → (y : Y) × R x y) → (xs : List X) → (ys : List Y) × AllZip R xs ys
zip_some R some [] = ([], tt)
zip_some R some (x ∷ xs) = let here = some x in let rest = zip_some R some xs in (here.0 ∷ rest.0, (here.1, rest.1))

-- one more place
pub zip_more : {X Y : Type 0} (R : X → Y → Type 0) (xs : List X) (ys : List Y) (at : ℕ) (x : X) (y : Y) → at < length xs → x ≡ get_or xs at x → R x y → AllZip R (take at xs) ys → AllZip R (take (at + 1) xs) (ys ++ y ∷ [])
zip_more {X} R xs ys at x y within is here each =
    subst (λ (front : List X). AllZip R front (ys ++ y ∷ [])) (sym (take_more xs at x within ∙ ap (λ (z : X). take at xs ++ z ∷ []) (sym is)))
    (zip_append R (take at xs) (x ∷ []) ys (y ∷ []) each (here, tt))

-- all places, the first of which were gone through
pub zip_whole : {X Y : Type 0} (R : X → Y → Type 0) (xs : List X) (ys back : List Y) (at : ℕ) → AllZip R (take at xs) ys → AllZip R (drop at xs) back → AllZip R xs (ys ++ back)
zip_whole {X} R xs ys back at each rest = subst (λ (all : List X). AllZip R all (ys ++ back)) (take-append-drop at xs) (zip_append R (take at xs) (drop at xs) ys back each rest)
