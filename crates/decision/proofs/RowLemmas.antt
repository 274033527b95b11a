-- Rows under their numbers, and what holds of them one by one.
use Rattle.std.proofs.Common.{◌≡◌, ℕ, zero, suc, ◌+◌, ◌<◌, List, [], ◌∷◌, ◌++◌, get_or, length, refl, ap, ◌∙◌, subst, arith}
use Rattle.std.specs.List.{AllByRecursion, AllZip, Contains}
use Rattle.policy_table.specs.Tables.{Fields}
use Rattle.matcher_meaning.specs.Order.{Numbered, numbered, numbered_from}

pub zip_append : {X Y : Type 0} (R : X → Y → Type 0) (xs front : List X) (ys back : List Y) → AllZip R xs ys → AllZip R front back → AllZip R (xs ++ front) (ys ++ back)
zip_append R [] front [] back one other = other
zip_append R [] front (y ∷ ys) back one other = absurd one
zip_append R (x ∷ xs) front [] back one other = absurd one
zip_append R (x ∷ xs) front (y ∷ ys) back one other = (one.0, zip_append R xs front ys back one.1 other)

pub each_push : {X : Type 0} (P : X → Type 0) (xs : List X) (x : X) → AllByRecursion P xs → P x → AllByRecursion P (xs ++ x ∷ [])
each_push P [] x each one = (one, tt)
each_push P (y ∷ ys) x each one = (each.0, each_push P ys x each.1 one)

pub each_weaker : {X : Type 0} (P Q : X → Type 0) (xs : List X) → ((x : X) → P x → Q x) → AllByRecursion P xs → AllByRecursion Q xs
each_weaker P Q [] weaker each = tt
each_weaker P Q (x ∷ xs) weaker each = (weaker x each.0, each_weaker P Q xs weaker each.1)

pub each_middle : {X : Type 0} (P : X → Type 0) (front : List X) (x : X) (back : List X) → AllByRecursion P (front ++ x ∷ back) → P x
each_middle P [] x back each = each.0
each_middle P (y ∷ front) x back each = each_middle P front x back each.1

pub each_at : {X : Type 0} (P : X → Type 0) (xs : List X) (i : ℕ) (d : X) → i < length xs → AllByRecursion P xs → P (get_or xs i d)
each_at P [] i d within each = absurd (omega arith)
each_at P (x ∷ xs) zero d within each = each.0
each_at P (x ∷ xs) (suc i) d within each = each_at P xs i d (omega arith) each.1

pub each_standing : {X : Type 0} (P : X → Type 0) (xs : List X) (x : X) → AllByRecursion P xs → Contains xs x → P x
each_standing P xs x each (i, within, is) = subst P is (each_at P xs i x within each)

pub zip_at : {X Y : Type 0} (R : X → Y → Type 0) (xs : List X) (ys : List Y) (i : ℕ) (d : X) (e : Y) → i < length xs → AllZip R xs ys → R (get_or xs i d) (get_or ys i e)
zip_at R [] ys i d e within each = absurd (omega arith)
zip_at R (x ∷ xs) [] i d e within each = absurd each
zip_at R (x ∷ xs) (y ∷ ys) zero d e within each = each.0
zip_at R (x ∷ xs) (y ∷ ys) (suc i) d e within each = zip_at R xs ys i d e (omega arith) each.1

pub zip_length : {X Y : Type 0} (R : X → Y → Type 0) (xs : List X) (ys : List Y) → AllZip R xs ys → length ys ≡ length xs
zip_length R [] [] each = refl
zip_length R [] (y ∷ ys) each = absurd each
zip_length R (x ∷ xs) [] each = absurd each
zip_length R (x ∷ xs) (y ∷ ys) each = omega (arith, zip_length R xs ys each.1)

-- the row at a place has the number of the place
pub numbered_at : (number : ℕ) (rows : List Fields) (i : ℕ) (d : Numbered) (e : Fields) → i < length rows → get_or (numbered_from number rows) i d ≡ numbered (number + i) (get_or rows i e)
numbered_at number [] i d e within = absurd (omega arith)
numbered_at number (row ∷ rows) zero d e within = ap (λ (n : ℕ). numbered n row) (omega arith)
numbered_at number (row ∷ rows) (suc i) d e within =
    numbered_at (suc number) rows i d e (omega arith) ∙ ap (λ (n : ℕ). numbered n (get_or rows i e)) (omega arith)

pub numbered_length : (number : ℕ) (rows : List Fields) → length (numbered_from number rows) ≡ length rows
numbered_length number [] = refl
numbered_length number (row ∷ rows) = omega (arith, numbered_length (suc number) rows)
