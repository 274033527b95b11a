-- The slots under a hash are those of the marks with it.
use Rattle.std.proofs.Common.{◌≡◌, ℕ, zero, suc, ◌<◌, ◌≤◌, ◌&&◌, ◌||◌, Bool, true, false, cond, true≢false, List, [], ◌∷◌, ◌++◌, length, get_or, slice_get, All, Result, Ok, Err, OnOk, refl, sym, ap, ◌∙◌, arith}
use Rattle.std.specs.Prelude.{nat_eq, nat_lt}
use Rattle.std.specs.List.{count_by, list_any}
use Rattle.std.specs.Option.{option_map_or}
use Rattle.std.proofs.lemmas.Bool.{eq-eqb, lt-ltb}
use Rattle.std.proofs.lemmas.List.Elements.{All-cons, All-nil}
use Rattle.std.proofs.lemmas.List.Sums.{sum_by-cons}
use Rattle.policy_index.specs.Helps.FoundSlots.{AddsMarks}
use Rattle.policy_index.specs.Helps.Kept.{AreCounted, AreListed, has_front, has_hash, has_hash_at, one_if}
use Rattle.policy_index.specs.Lists.{Lists, slots_at}
use Rattle.policy_index.specs.declared.mark.Mark.{Mark}

-- a slot that is counted stands
pub counted_any : (slots : List ℕ) (slot : ℕ) → 0 < count_by (nat_eq slot) slots → list_any (nat_eq slot) slots ≡ true
counted_any [] slot some = absurd (omega (arith, some))
counted_any (x ∷ xs) slot some = by (nat_eq slot x) refl (λ later. counted_any xs slot later)
  where
    by : (b : Bool) → nat_eq slot x ≡ b → (0 < count_by (nat_eq slot) xs → list_any (nat_eq slot) xs ≡ true) → (b || list_any (nat_eq slot) xs) ≡ true
    by true is rest = refl
    by false is rest = rest (omega (arith, some, sum_by-cons (λ (y : ℕ). cond (nat_eq slot y) 1 0) x xs, ap (λ (b : Bool). cond {A = ℕ} b 1 0) is))

-- a slot that has a mark with the hash is within the marks
pub has_within : (hash : ℕ) (marks : List Mark) (slot : ℕ) → has_hash_at hash marks slot ≡ true → slot < length marks
has_within hash [] slot has = absurd (true≢false (sym has))
has_within hash (m ∷ ms) zero has = omega arith
has_within hash (m ∷ ms) (suc slot) has = omega (arith, has_within hash ms slot has)

-- each slot under the hash is
all_within : (marks : List Mark) (hash : ℕ) (slots : List ℕ) → ((slot : ℕ) → count_by (nat_eq slot) slots ≤ one_if (has_hash_at hash marks slot)) → All (λ (slot : ℕ). slot < length marks) slots
all_within marks hash [] few = All-nil (λ (slot : ℕ). slot < length marks)
all_within marks hash (x ∷ xs) few =
    All-cons (λ (slot : ℕ). slot < length marks) x xs (has_within hash marks x (held (has_hash_at hash marks x) here))
    (all_within marks hash xs (λ slot. omega (arith, few slot, sum_by-cons (λ (y : ℕ). cond (nat_eq slot y) 1 0) x xs)))
  where
    held : (b : Bool) → 0 < one_if b → b ≡ true
    held true some = refl
    held false some = absurd (omega (arith, some))

    here : 0 < one_if (has_hash_at hash marks x)
    here = omega (arith, few x, sum_by-cons (λ (y : ℕ). cond (nat_eq x y) 1 0) x xs, ap (λ (b : Bool). cond {A = ℕ} b 1 0) (eq-eqb x x refl))

adds : (marks : List Mark) (lists : Lists) (hash : ℕ) (slots old new : List ℕ) → AreListed marks lists → slots ≡ slots_at lists hash → new ≡ old ++ slots → AddsMarks (has_hash hash) marks old new
adds marks lists hash slots old new listed is pushed = record {
  more = slots;
  behind = pushed;
  within = all_within marks hash slots (λ slot. omega (arith, ap (count_by (nat_eq slot)) is, listed hash slot));
  each = λ slot passes. counted_any slots slot (omega (arith, ap (count_by (nat_eq slot)) is, listed hash slot, ap one_if passes));
}

-- they are added, unless memory runs out
pub adds_listed : {E : Type 0} (marks : List Mark) (lists : Lists) (hash : ℕ) (slots old new : List ℕ) (r : Result (Unit {0}) E) → AreListed marks lists → slots ≡ slots_at lists hash → OnOk r (new ≡ old ++ slots) → OnOk r (AddsMarks (has_hash hash) marks old new)
adds_listed marks lists hash slots old new (Ok x) listed is pushed = adds marks lists hash slots old new listed is pushed
adds_listed marks lists hash slots old new (Err e) listed is pushed = tt

-- where no mark has a front of a length, none with one has a hash
pub none_front : (marks : List Mark) (counts : List ℕ) (size hash : ℕ) → AreCounted marks counts → nat_lt 0 (get_or counts size 0) ≡ false → (slot : ℕ) → option_map_or (λ (mark : Mark). has_front size mark && has_hash hash mark) (slice_get marks slot) false ≡ false
none_front marks counts size hash counted none slot = by marks slot (omega (arith, low (get_or counts size 0) none, counted.each size))
  where
    low : (n : ℕ) → nat_lt 0 n ≡ false → n ≡ 0
    low zero is = refl
    low (suc n) is = absurd (true≢false (sym (lt-ltb 0 (suc n) (omega arith)) ∙ is))

    by : (ms : List Mark) (at : ℕ) → count_by (has_front size) ms ≡ 0 → option_map_or (λ (mark : Mark). has_front size mark && has_hash hash mark) (slice_get ms at) false ≡ false
    by [] at is = refl
    by (m ∷ ms) zero is = first (has_front size m) refl
      where
        first : (b : Bool) → has_front size m ≡ b → (b && has_hash hash m) ≡ false
        first true has = absurd (omega (arith, is, sum_by-cons (λ (x : Mark). cond (has_front size x) 1 0) m ms, ap (λ (b : Bool). cond {A = ℕ} b 1 0) has))
        first false has = refl
    by (m ∷ ms) (suc at) is = by ms at (omega (arith, is, sum_by-cons (λ (x : Mark). cond (has_front size x) 1 0) m ms))
