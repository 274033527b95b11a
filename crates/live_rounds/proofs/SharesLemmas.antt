-- Requests that are shared out.
use Rattle.std.proofs.Common.{◌≡◌, ℕ, zero, suc, ◌+◌, ◌-◌, ◌*◌, ◌/◌, ◌<◌, ◌≤◌, List, [], ◌∷◌, ◌++◌, append_assoc, length, map, take, drop, refl, sym, ap, subst, ◌∙◌, arith}
use Rattle.std.specs.Int.{div_ceil}
use Rattle.std.proofs.lemmas.Grind.{div_ceil_times}
use Rattle.std.proofs.lemmas.Nat.{div-mul-add}
use Rattle.live_rounds.specs.Helps.Passed.{IsCutBehind}
use Rattle.live_rounds.specs.Requests.{AreParts, requests}
use Rattle.live_rounds.specs.Shares.{AddsParts}
use Rattle.live_rounds.specs.Stretches.{IsCounted, items_of}
use Rattle.live_rounds.specs.declared.stretch.Stretch.{Stretch}
use Rattle.script_read.specs.Said.{Said}
use Rattle.session_meaning.specs.Rounds.{share_size}

pub map_take : {X Y : Type 0} (f : X → Y) (n : ℕ) (xs : List X) → map f (take n xs) ≡ take n (map f xs)
map_take f zero xs = refl
map_take f (suc n) [] = refl
map_take f (suc n) (x ∷ xs) = ap (λ (l : List _). f x ∷ l) (map_take f n xs)

pub map_drop : {X Y : Type 0} (f : X → Y) (n : ℕ) (xs : List X) → map f (drop n xs) ≡ drop n (map f xs)
map_drop f zero xs = refl
map_drop f (suc n) [] = refl
map_drop f (suc n) (x ∷ xs) = map_drop f n xs

pub map_long : {X Y : Type 0} (f : X → Y) (xs : List X) → length (map f xs) ≡ length xs
map_long f [] = refl
map_long f (x ∷ xs) = ap (λ (n : ℕ). suc n) (map_long f xs)

-- ---- the size of a share

-- a division that is rounded up gives it
pub ceil_share : (others count : ℕ) → div_ceil count (suc others) ≡ share_size others count
ceil_share others count = let both = div_ceil_times count (suc others) (omega arith) in by (div_ceil count (suc others)) both.0 both.1
  where
    rest : (p : ℕ) → count ≤ p → p < count + suc others → (count + others ≡ p + (count + others - p)) × (count + others - p < suc others)
    rest p low high = (omega (arith, low, high), omega (arith, low, high))

    by : (q : ℕ) → count ≤ q * suc others → q * suc others < count + suc others → q ≡ share_size others count
    by q low high = let r = rest (q * suc others) low high in sym (ap (λ (n : ℕ). n / suc others) r.0 ∙ div-mul-add q (suc others) (count + others - q * suc others) r.1)

pub ceil_share_one : (others count : ℕ) → div_ceil count (others + 1) ≡ share_size others count
ceil_share_one others count = let one : others + 1 ≡ suc others = omega arith in ap (div_ceil count) one ∙ ceil_share others count

-- ---- parts

-- the last part
pub last_part : (items : Stretch) (old new : List Stretch) → IsCounted items → new ≡ old ++ items ∷ [] → AddsParts 0 (items_of items) old new
last_part items old new counted added = record { more = items ∷ []; added = added; parts = refl; counted = (counted, tt) }

-- the first part, and those of what is left
pub part_more : (others left share : ℕ) (items : List Said) (part rest : Stretch) (old one new : List Stretch) → others ≡ suc left → IsCutBehind share items part rest → share ≡ share_size others (length (requests items)) → one ≡ old ++ part ∷ [] → AddsParts left (items_of rest) one new → AddsParts others items old new
part_more others left share items part rest old one new is cut share-is one-is adds =
    subst (λ (n : ℕ). AddsParts n items old new) (sym is) (record {
      more = part ∷ adds.more;
      added = adds.added ∙ ap (λ (l : List Stretch). l ++ adds.more) one-is ∙ append_assoc old (part ∷ []) adds.more;
      parts = (items_of rest, cut.parts, cut.share_is ∙ share-is ∙ ap (λ (n : ℕ). share_size n (length (requests items))) is, adds.parts);
      counted = (cut.part_counted, adds.counted);
    })

-- there is a part for each worker
pub parts_long : (n : ℕ) (items : List Said) (parts : List (List Said)) → AreParts n items parts → length parts ≡ suc n
parts_long zero items (part ∷ []) are = refl
parts_long (suc n) items (part ∷ parts) are = ap (λ (k : ℕ). suc k) (parts_long n are.0 parts are.3)
parts_long zero items [] are = absurd are
parts_long zero items (part ∷ other ∷ parts) are = absurd are
parts_long (suc n) items [] are = absurd are
