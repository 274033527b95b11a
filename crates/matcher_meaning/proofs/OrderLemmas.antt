-- The order in which rows are judged has each row of the table once.
use Rattle.std.proofs.Common.{◌≡◌, ℕ, zero, suc, ◌+◌, ◌<◌, Bool, true, false, cond, List, [], ◌∷◌, length, get_or, map, refl, sym, ap, ◌∙◌, subst, arith}
use Rattle.std.proofs.lemmas.List.Sorted.{IsPermutation-cons, IsPermutation-map, IsPermutation-middle, IsPermutation-refl, IsPermutation-sym, IsPermutation-trans}
use Rattle.std.specs.List.{AllZip}
use Rattle.std.specs.List.Sorted.{IsPermutation}
use Rattle.std.specs.Prelude.{nat_lt}
use Rattle.effect_fold.specs.declared.effect.Effect.{Effect}
use Rattle.effect_fold.specs.declared.effect.Effect.TheVariants as effect
use Rattle.perm_base.specs.RoleShapes.{shape_of}
use Rattle.policy_table.specs.Tables.{Fields}
use Rattle.role_meaning.specs.Depths.{Ranked, by_depth, put_by_depth, ranked_from}
use Rattle.matcher_meaning.specs.Cases.{Case}
use Rattle.matcher_meaning.specs.Order.{AreInOrder, IsDepthBy, Numbered, in_order_of, numbered_from}

-- a rank put among others by depth
put_moves : (one : Ranked) (others : List Ranked) → IsPermutation (one ∷ others) (put_by_depth one others)
put_moves one [] = IsPermutation-refl (one ∷ [])
put_moves one (other ∷ others) = by (nat_lt one.depth other.depth) (put_moves one others)
  where
    turned : IsPermutation (one ∷ other ∷ others) (other ∷ one ∷ others)
    turned = IsPermutation-sym (other ∷ one ∷ others) (one ∷ other ∷ others) (IsPermutation-middle (other ∷ []) one others)

    by : (less : Bool) → IsPermutation (one ∷ others) (put_by_depth one others) → IsPermutation (one ∷ other ∷ others) (cond less (other ∷ put_by_depth one others) (one ∷ other ∷ others))
    by true rest =
        IsPermutation-trans (one ∷ other ∷ others) (other ∷ one ∷ others) (other ∷ put_by_depth one others) turned
        (IsPermutation-cons other (one ∷ others) (put_by_depth one others) rest)
    by false rest = IsPermutation-refl (one ∷ other ∷ others)

-- the ranks in the order of the table
abbrev in_turn : ℕ → List ℕ → List Ranked
in_turn place [] = []
in_turn place (depth ∷ depths) = record { place = place; depth = depth } ∷ in_turn (suc place) depths

ranks_move : (place : ℕ) (depths : List ℕ) → IsPermutation (in_turn place depths) (ranked_from place depths)
ranks_move place [] = IsPermutation-refl []
ranks_move place (depth ∷ depths) =
    let one : Ranked = record { place = place; depth = depth } in
    IsPermutation-trans (one ∷ in_turn (suc place) depths) (one ∷ ranked_from (suc place) depths) (put_by_depth one (ranked_from (suc place) depths))
    (IsPermutation-cons one (in_turn (suc place) depths) (ranked_from (suc place) depths) (ranks_move (suc place) depths))
    (put_moves one (ranked_from (suc place) depths))

-- the places of so many rows, in the order of the table
abbrev places_from : ℕ → List ℕ → List ℕ
places_from place [] = []
places_from place (depth ∷ depths) = place ∷ places_from (suc place) depths

places_in_turn : (place : ℕ) (depths : List ℕ) → map (λ (one : Ranked). one.place) (in_turn place depths) ≡ places_from place depths
places_in_turn place [] = refl
places_in_turn place (depth ∷ depths) = ap (λ (places : List ℕ). place ∷ places) (places_in_turn (suc place) depths)

places_move : (depths : List ℕ) → IsPermutation (places_from 0 depths) (by_depth depths)
places_move depths =
    subst (λ (places : List ℕ). IsPermutation places (by_depth depths)) (places_in_turn 0 depths)
    (IsPermutation-map (λ (one : Ranked). one.place) (in_turn 0 depths) (ranked_from 0 depths) (ranks_move 0 depths))

get_or_same : {X : Type 0} (xs : List X) (i : ℕ) (d other : X) → i < length xs → get_or xs i d ≡ get_or xs i other
get_or_same [] i d other within = absurd (omega arith)
get_or_same (x ∷ xs) zero d other within = refl
get_or_same (x ∷ xs) (suc i) d other within = get_or_same xs i d other (omega arith)

-- what is read at each place in turn is the list
read_in_turn : {X : Type 0} (read : ℕ → X) (place : ℕ) (depths : List ℕ) (xs : List X) → length depths ≡ length xs → ((i : ℕ) (d : X) → i < length xs → read (place + i) ≡ get_or xs i d) → map read (places_from place depths) ≡ xs
read_in_turn read place [] [] same reads = refl
read_in_turn read place [] (x ∷ xs) same reads = absurd (omega (arith, same))
read_in_turn read place (depth ∷ depths) [] same reads = absurd (omega (arith, same))
read_in_turn {X} read place (depth ∷ depths) (x ∷ xs) same reads =
    ap (λ (first : X). first ∷ map read (places_from (suc place) depths)) head
    ∙ ap (λ (others : List X). x ∷ others) (read_in_turn read (suc place) depths xs (omega (arith, same)) (λ i d within. later i d within))
  where
    head : read place ≡ x
    head = ap read (omega arith) ∙ reads 0 x (omega arith)

    later : (i : ℕ) (d : X) → i < length xs → read (suc place + i) ≡ get_or xs i d
    later i d within = ap read (omega arith) ∙ reads (suc i) d (omega arith)

same_length : {X Y : Type 0} (Holds : X → Y → Type 0) (xs : List X) (ys : List Y) → AllZip Holds xs ys → length ys ≡ length xs
same_length Holds [] [] each = refl
same_length Holds [] (y ∷ ys) each = absurd each
same_length Holds (x ∷ xs) [] each = absurd each
same_length Holds (x ∷ xs) (y ∷ ys) each = omega (arith, same_length Holds xs ys each.1)

numbered_length : (number : ℕ) (table : List Fields) → length (numbered_from number table) ≡ length table
numbered_length number [] = refl
numbered_length number (fields ∷ others) = omega (arith, numbered_length (suc number) others)

-- the row at this place
abbrev at_place : List Numbered → ℕ → Numbered
at_place numbered place = get_or numbered place (record { number = suc place; fields = [] })

at_place_is : (numbered : List Numbered) (i : ℕ) (d : Numbered) → i < length numbered → at_place numbered (0 + i) ≡ get_or numbered i d
at_place_is numbered i d within =
    let same : i ≡ 0 + i = omega arith in
    subst (λ (j : ℕ). at_place numbered j ≡ get_or numbered i d) same (get_or_same numbered i (record { number = suc i; fields = [] }) d within)

by_depth_moves : (depths : List ℕ) (numbered : List Numbered) → length depths ≡ length numbered → IsPermutation numbered (in_order_of (by_depth depths) numbered)
by_depth_moves depths numbered same =
    subst (λ (list : List Numbered). IsPermutation list (in_order_of (by_depth depths) numbered)) (read_in_turn (at_place numbered) 0 depths numbered same (at_place_is numbered))
    (IsPermutation-map (at_place numbered) (places_from 0 depths) (by_depth depths) (places_move depths))

pub order_moves : (case : Case) (e : Effect) (table : List Fields) (judged : List Numbered) → AreInOrder case e table judged → IsPermutation (numbered_from 1 table) judged
order_moves case effect.SubjectPriority table judged (depths, each, is) =
    subst (IsPermutation (numbered_from 1 table)) (sym is)
    (by_depth_moves depths (numbered_from 1 table) (same_length (IsDepthBy case (shape_of case.shapes.roles 1)) table depths each ∙ sym (numbered_length 1 table)))
order_moves case effect.AllowOverride table judged is = subst (IsPermutation (numbered_from 1 table)) (sym is) (IsPermutation-refl (numbered_from 1 table))
order_moves case effect.DenyOverride table judged is = subst (IsPermutation (numbered_from 1 table)) (sym is) (IsPermutation-refl (numbered_from 1 table))
order_moves case effect.AllowAndDeny table judged is = subst (IsPermutation (numbered_from 1 table)) (sym is) (IsPermutation-refl (numbered_from 1 table))
order_moves case effect.Priority table judged is = subst (IsPermutation (numbered_from 1 table)) (sym is) (IsPermutation-refl (numbered_from 1 table))
