-- Marks as bits of words, and what marking adds.
use Rattle.std.proofs.Common.{◌≡◌, suc, Bool, Option, None, Some, IsTrue, ◌⊎◌, inl, inr, ◌<◌, ◌≤◌, ◌+◌, ◌-◌, ◌*◌, ◌/◌, ◌%◌, ◌^◌, ℕ, List, length, get_or, replicate, set, refl, sym, ap, ◌∙◌, arith, get_or-set_other, get_or-set_same, w64}
use Rattle.std.specs.Int.{bit_at, trailing_zeros}
use Rattle.std.specs.Prelude.{◌==◌, IfNone, IfSome, ◌↔◌, bit_and, bit_or}
use Rattle.std.proofs.lemmas.Bool.{cases_eq, cases_lt, eq-eqb, eqb-true}
use Rattle.std.proofs.lemmas.List.{get_or-replicate, get_or_past, length-replicate}
use Rattle.std.proofs.lemmas.Nat.{shr-shr}
use Rattle.std.proofs.lemmas.Nat.Bits.{bit_at-trailing_zeros, bit_at-zero, bit_at_above, bit_at_set_other, bit_at_set_same, shr_and_one}
use Rattle.role_graph.specs.Helps.Marks.{Extends, IsNext, IsSet}

-- ---- one place

-- the test of a bit
pub is_set : (words : List ℕ) (at word : ℕ) → word ≡ get_or words (at / 64) 0 → bit_at word (at % 64) ≡ 1 → IsSet words at
unfolding IsSet
is_set words at word is one = ap (λ (w : ℕ). bit_at w (at % 64)) (sym is) ∙ one

pub set_is : (words : List ℕ) (at word : ℕ) → word ≡ get_or words (at / 64) 0 → IsSet words at → bit_at word (at % 64) ≡ 1
unfolding IsSet
set_is words at word is one = ap (λ (w : ℕ). bit_at w (at % 64)) is ∙ one

-- what the test of a bit tells
pub bit_told : (words : List ℕ) (at word : ℕ) (test : Bool) → word ≡ get_or words (at / 64) 0 → test ≡ (bit_and (word / 2 ^ (at % 64)) 1 == 1) → IsTrue test ↔ IsSet words at
bit_told words at word test is told = (
  λ yes. is_set words at word is (sym (shr_and_one word (at % 64)) ∙ eqb-true (bit_and (word / 2 ^ (at % 64)) 1) 1 (sym told ∙ yes)),
  λ one. told ∙ eq-eqb (bit_and (word / 2 ^ (at % 64)) 1) 1 (shr_and_one word (at % 64) ∙ set_is words at word is one),
)

-- no place of a word without bits is marked
pub no_mark : (words : List ℕ) (at : ℕ) → get_or words (at / 64) 0 ≡ 0 → IsSet words at → ⊥
unfolding IsSet
no_mark words at none one = absurd (let zero_bit : bit_at (get_or words (at / 64) 0) (at % 64) ≡ 0 = ap (λ (w : ℕ). bit_at w (at % 64)) none ∙ bit_at-zero (at % 64) in omega (arith, one, zero_bit))

pub within_words : (words : List ℕ) (at : ℕ) → length words ≡ 3125 → 200000 ≤ at → IsSet words at → ⊥
within_words words at long past = no_mark words at (get_or_past words (at / 64) 0 (omega (arith, long, past)))

bit_within : (at : ℕ) → at % 64 < 64
bit_within at = omega arith

-- no place of words without bits is marked
pub none_marked : (at : ℕ) → IsSet (replicate 3125 0) at → ⊥
none_marked at = by (cases_lt (at / 64) 3125)
  where
    by : (at / 64 < 3125) ⊎ (3125 ≤ at / 64) → IsSet (replicate 3125 0) at → ⊥
    by (inl within) = no_mark (replicate 3125 0) at (get_or-replicate 3125 (at / 64) 0 0 within)
    by (inr past) = no_mark (replicate 3125 0) at (get_or_past (replicate 3125 0) (at / 64) 0 (let long : length (replicate {A = ℕ} 3125 0) ≡ 3125 = length-replicate {A = ℕ} 3125 0 in omega (arith, past, long)))

-- a place whose word got its bit
pub set_here : (words : List ℕ) (at word : ℕ) → at / 64 < length words → word ≡ get_or words (at / 64) 0 → IsSet (set words (at / 64) (bit_or word (1 * 2 ^ (at % 64) % 2 ^ 64))) at
unfolding IsSet
set_here words at word within is =
    ap (λ (w : ℕ). bit_at w (at % 64)) (get_or-set_same words (at / 64) (bit_or word (1 * 2 ^ (at % 64) % 2 ^ 64)) 0 within) ∙ bit_at_set_same w64 word (at % 64) (bit_within at)

-- each other place stays as it was
pub set_elsewhere : (words : List ℕ) (at other word : ℕ) → at / 64 < length words → word ≡ get_or words (at / 64) 0 → (other ≡ at → ⊥) → bit_at (get_or (set words (at / 64) (bit_or word (1 * 2 ^ (at % 64) % 2 ^ 64))) (other / 64) 0) (other % 64) ≡ bit_at (get_or words (other / 64) 0) (other % 64)
set_elsewhere words at other word within is differ = by (cases_eq (other / 64) (at / 64))
  where
    new : ℕ
    new = bit_or word (1 * 2 ^ (at % 64) % 2 ^ 64)

    by : (other / 64 ≡ at / 64) ⊎ (other / 64 ≡ at / 64 → ⊥) → bit_at (get_or (set words (at / 64) new) (other / 64) 0) (other % 64) ≡ bit_at (get_or words (other / 64) 0) (other % 64)
    by (inr apart) = ap (λ (w : ℕ). bit_at w (other % 64)) (get_or-set_other words (at / 64) (other / 64) new 0 apart)
    by (inl same) =
        ap (λ (k : ℕ). bit_at (get_or (set words (at / 64) new) k 0) (other % 64)) same
        ∙ ap (λ (w : ℕ). bit_at w (other % 64)) (get_or-set_same words (at / 64) new 0 within)
        ∙ bit_at_set_other w64 word (at % 64) (bit_within at) (other % 64) (λ e. differ (omega (arith, e, same)))
        ∙ ap (λ (w : ℕ). bit_at w (other % 64)) is
        ∙ ap (λ (k : ℕ). bit_at (get_or words k 0) (other % 64)) (sym same)

pub set_keeps : (words : List ℕ) (at word : ℕ) → at / 64 < length words → word ≡ get_or words (at / 64) 0 → (other : ℕ) → IsSet words other → IsSet (set words (at / 64) (bit_or word (1 * 2 ^ (at % 64) % 2 ^ 64))) other
unfolding IsSet
set_keeps words at word within is other one = by (cases_eq other at)
  where
    by : (other ≡ at) ⊎ (other ≡ at → ⊥) → bit_at (get_or (set words (at / 64) (bit_or word (1 * 2 ^ (at % 64) % 2 ^ 64))) (other / 64) 0) (other % 64) ≡ 1
    by (inr differ) = set_elsewhere words at other word within is differ ∙ one
    by (inl same) =
        ap (λ (k : ℕ). bit_at (get_or (set words (at / 64) (bit_or word (1 * 2 ^ (at % 64) % 2 ^ 64))) (k / 64) 0) (k % 64)) same
        ∙ ap (λ (w : ℕ). bit_at w (at % 64)) (get_or-set_same words (at / 64) (bit_or word (1 * 2 ^ (at % 64) % 2 ^ 64)) 0 within) ∙ bit_at_set_same w64 word (at % 64) (bit_within at)

pub set_only : (words : List ℕ) (at word : ℕ) → at / 64 < length words → word ≡ get_or words (at / 64) 0 → (other : ℕ) → IsSet (set words (at / 64) (bit_or word (1 * 2 ^ (at % 64) % 2 ^ 64))) other → IsSet words other ⊎ (other ≡ at)
unfolding IsSet
set_only words at word within is other one = by (cases_eq other at)
  where
    by : (other ≡ at) ⊎ (other ≡ at → ⊥) → (bit_at (get_or words (other / 64) 0) (other % 64) ≡ 1) ⊎ (other ≡ at)
    by (inl same) = inr same
    by (inr differ) = inl (sym (set_elsewhere words at other word within is differ) ∙ one)

-- ---- the first place from here on

-- the bits of a word from a place on
shifted : (word from step : ℕ) → bit_at (word / 2 ^ from) step ≡ bit_at word (from + step)
shifted word from step = ap (λ (n : ℕ). n % 2) (shr-shr word from step)

-- a marked place behind `from` is a bit of what is left of its word, or stands in a later word
pub left_bit : (words : List ℕ) (from other word : ℕ) → word ≡ get_or words (from / 64) 0 → from ≤ other → other < 64 * (from / 64 + 1) → IsSet words other → bit_at (word / 2 ^ (from % 64)) (other - from) ≡ 1
left_bit words from other word is low high one =
    let same : other / 64 ≡ from / 64 = omega (arith, low, high) in
    let place : from % 64 + (other - from) ≡ other % 64 = omega (arith, low, high) in
    shifted word (from % 64) (other - from) ∙ ap (bit_at word) place ∙ set_is words other word (is ∙ ap (λ (k : ℕ). get_or words k 0) (sym same)) one

-- where bits are left, the lowest is the first marked place
pub record IsFirstSet (words : List ℕ) (from at : ℕ) : Type 0 where
  pub behind : from ≤ at
  pub within : at < 200000
  pub marked : IsSet words at
  pub first : (other : ℕ) → from ≤ other → other < at → IsSet words other → ⊥

pub first_left : (words : List ℕ) (from word left lowest : ℕ) → from < 200000 → word ≡ get_or words (from / 64) 0 → word < 2 ^ 64 → left ≡ word / 2 ^ (from % 64) → 0 < left → left < 2 ^ 64 → lowest ≡ trailing_zeros w64 left → IsFirstSet words from (from + lowest)
first_left words from word left lowest inside is small shifts some fits low =
    let found = bit_at-trailing_zeros w64 left some fits in
    let one : bit_at left lowest ≡ 1 = ap (bit_at left) low ∙ found.1 in
    let bit : bit_at word (from % 64 + lowest) ≡ 1 = sym (shifted word (from % 64) lowest) ∙ ap (λ (n : ℕ). bit_at n lowest) (sym shifts) ∙ one in
    let near : from % 64 + lowest < 64 = below (from % 64 + lowest) bit (cases_lt (from % 64 + lowest) 64) in
    let same : (from + lowest) / 64 ≡ from / 64 = omega (arith, near) in
    let place : (from + lowest) % 64 ≡ from % 64 + lowest = omega (arith, near) in
    record {
      behind = omega arith;
      within = omega (arith, inside, near);
      marked = is_set words (from + lowest) word (is ∙ ap (λ (k : ℕ). get_or words k 0) (sym same)) (ap (bit_at word) place ∙ bit);
      first = λ other after before set_one.
          (let bit_one : bit_at (word / 2 ^ (from % 64)) (other - from) ≡ 1 = left_bit words from other word is after (omega (arith, before, near)) set_one in
          let bit_zero : bit_at left (other - from) ≡ 0 = found.2 (other - from) (omega (arith, after, before, low)) in
          let same_bit : bit_at left (other - from) ≡ bit_at (word / 2 ^ (from % 64)) (other - from) = ap (λ (n : ℕ). bit_at n (other - from)) shifts in
          omega (arith, bit_one, bit_zero, same_bit));
    }
  where
    below : (at : ℕ) → bit_at word at ≡ 1 → (at < 64) ⊎ (64 ≤ at) → at < 64
    below at one (inl less) = less
    below at one (inr past) = absurd (let none : bit_at word at ≡ 0 = bit_at_above word 64 at small past in omega (arith, one, none))

-- where none is left, no place up to the next word is marked
pub none_left : (words : List ℕ) (from word left other : ℕ) → word ≡ get_or words (from / 64) 0 → left ≡ word / 2 ^ (from % 64) → left ≡ 0 → from ≤ other → other < 64 * (from / 64 + 1) → IsSet words other → ⊥
none_left words from word left other is shifts none low high one =
    let bit_one : bit_at (word / 2 ^ (from % 64)) (other - from) ≡ 1 = left_bit words from other word is low high one in
    let bit_zero : bit_at (word / 2 ^ (from % 64)) (other - from) ≡ 0 = ap (λ (n : ℕ). bit_at n (other - from)) (sym shifts ∙ none) ∙ bit_at-zero (other - from) in
    absurd (omega (arith, bit_one, bit_zero))

-- the same at the begin of a word
word_begins : (words : List ℕ) (at word : ℕ) → word ≡ get_or words at 0 → word ≡ get_or words (64 * at / 64) 0
word_begins words at word is = is ∙ ap (λ (k : ℕ). get_or words k 0) (let e : at ≡ 64 * at / 64 = omega arith in e)

whole_word : (word at : ℕ) → word ≡ word / 2 ^ (64 * at % 64)
whole_word word at =
    let e : 64 * at % 64 ≡ 0 = omega arith in
    let one : word / 2 ^ 0 ≡ word = omega arith in
    sym (ap (λ (k : ℕ). word / 2 ^ k) e ∙ one)

pub first_of_word : (words : List ℕ) (at word lowest : ℕ) → at < 3125 → word ≡ get_or words at 0 → word < 2 ^ 64 → 0 < word → lowest ≡ trailing_zeros w64 word → IsFirstSet words (64 * at) (64 * at + lowest)
first_of_word words at word lowest inside is small some low =
    first_left words (64 * at) word word lowest (omega (arith, inside)) (word_begins words at word is) small (whole_word word at) some small low

pub none_of_word : (words : List ℕ) (at word other : ℕ) → word ≡ get_or words at 0 → word ≡ 0 → 64 * at ≤ other → other < 64 * (at + 1) → IsSet words other → ⊥
none_of_word words at word other is none low high =
    none_left words (64 * at) word word other (word_begins words at word is) (whole_word word at) none low (omega (arith, high))

-- behind the first word, where none is left of it
pub behind_word : (words : List ℕ) (from word left : ℕ) (other at : ℕ) → word ≡ get_or words (from / 64) 0 → left ≡ word / 2 ^ (from % 64) → left ≡ 0 → ((place : ℕ) → 64 * (from / 64 + 1) ≤ place → place < at → IsSet words place → ⊥) → from ≤ other → other < at → IsSet words other → ⊥
behind_word words from word left other at is shifts none later low high one = by (cases_lt other (64 * (from / 64 + 1)))
  where
    by : (other < 64 * (from / 64 + 1)) ⊎ (64 * (from / 64 + 1) ≤ other) → ⊥
    by (inl here) = none_left words from word left other is shifts none low here one
    by (inr behind) = later other behind high one

pub behind_all : (words : List ℕ) (from word left : ℕ) (other : ℕ) → word ≡ get_or words (from / 64) 0 → left ≡ word / 2 ^ (from % 64) → left ≡ 0 → ((place : ℕ) → 64 * (from / 64 + 1) ≤ place → IsSet words place → ⊥) → from ≤ other → IsSet words other → ⊥
behind_all words from word left other is shifts none later low one =
    behind_word words from word left other (suc other) is shifts none (λ place behind high set_one. later place behind set_one) low (omega arith) one

-- words that were gone over
pub past_words : (words : List ℕ) (from at other : ℕ) → length words ≡ 3125 → 3125 ≤ at → ((place : ℕ) → 64 * from ≤ place → place < 64 * at → IsSet words place → ⊥) → 64 * from ≤ other → IsSet words other → ⊥
past_words words from at other long past none low one = by (cases_lt other (64 * at))
  where
    by : (other < 64 * at) ⊎ (64 * at ≤ other) → ⊥
    by (inl before) = none other low before one
    by (inr behind) = within_words words other long (omega (arith, past, behind)) one

pub next_word_none : (words : List ℕ) (from at word : ℕ) → word ≡ get_or words at 0 → word ≡ 0 → ((place : ℕ) → 64 * from ≤ place → place < 64 * at → IsSet words place → ⊥) → (place : ℕ) → 64 * from ≤ place → place < 64 * (at + 1) → IsSet words place → ⊥
next_word_none words from at word is empty none place low high one = by (cases_lt place (64 * at))
  where
    by : (place < 64 * at) ⊎ (64 * at ≤ place) → ⊥
    by (inl before) = none place low before one
    by (inr here) = none_of_word words at word place is empty here high one

-- no place before the first of a word is marked, where none is before the word
pub first_behind : (words : List ℕ) (from at lowest : ℕ) → ((place : ℕ) → 64 * from ≤ place → place < 64 * at → IsSet words place → ⊥) → IsFirstSet words (64 * at) (64 * at + lowest) → (other : ℕ) → 64 * from ≤ other → other < 64 * at + lowest → IsSet words other → ⊥
first_behind words from at lowest none first other low high one = by (cases_lt other (64 * at))
  where
    by : (other < 64 * at) ⊎ (64 * at ≤ other) → ⊥
    by (inl before) = none other low before one
    by (inr behind) = first.first other behind high one

pub if_some_then : {X : Type 0} (found : Option X) (P Q : X → Type 0) → ((x : X) → P x → Q x) → IfSome found P → IfSome found Q
if_some_then (Some x) P Q f is = f x is
if_some_then None P Q f is = tt

pub if_none_then : {X : Type 0} (found : Option X) (P Q : Type 0) → (P → Q) → IfNone found P → IfNone found Q
if_none_then (Some x) P Q f is = tt
if_none_then None P Q f is = f is

-- ---- what marking adds

pub extends_none : (Allowed : ℕ → Type 0) (all new : List ℕ) → Extends Allowed all new all new
extends_none Allowed all new = record { keeps = λ at one. one; keeps_new = λ at one. one; only = λ at one. inl one; only_new = λ at one. inl one }

pub extends_both : (Allowed : ℕ → Type 0) (all new all_between new_between all_after new_after : List ℕ) → Extends Allowed all new all_between new_between → Extends Allowed all_between new_between all_after new_after → Extends Allowed all new all_after new_after
extends_both Allowed all new all_between new_between all_after new_after first second = record {
  keeps = λ at one. second.keeps at (first.keeps at one);
  keeps_new = λ at one. second.keeps_new at (first.keeps_new at one);
  only = λ at one. by_only at (second.only at one);
  only_new = λ at one. by_new at (second.only_new at one);
}
  where
    early : (at : ℕ) → IsSet all at ⊎ IsSet new_between at → IsSet all at ⊎ IsSet new_after at
    early at (inl one) = inl one
    early at (inr one) = inr (second.keeps_new at one)

    by_only : (at : ℕ) → IsSet all_between at ⊎ IsSet new_after at → IsSet all at ⊎ IsSet new_after at
    by_only at (inl one) = early at (first.only at one)
    by_only at (inr one) = inr one

    early_new : (at : ℕ) → IsSet new at ⊎ (IsSet all_between at × Allowed at) → IsSet new at ⊎ (IsSet all_after at × Allowed at)
    early_new at (inl one) = inl one
    early_new at (inr (one, allowed)) = inr (second.keeps at one, allowed)

    by_new : (at : ℕ) → IsSet new_between at ⊎ (IsSet all_after at × Allowed at) → IsSet new at ⊎ (IsSet all_after at × Allowed at)
    by_new at (inl one) = early_new at (first.only_new at one)
    by_new at (inr both) = inr both

pub extends_weaker : (Allowed Other : ℕ → Type 0) (all new all_after new_after : List ℕ) → ((at : ℕ) → Allowed at → Other at) → Extends Allowed all new all_after new_after → Extends Other all new all_after new_after
extends_weaker Allowed Other all new all_after new_after weaker extends = record {
  keeps = extends.keeps;
  keeps_new = extends.keeps_new;
  only = extends.only;
  only_new = λ at one. by at (extends.only_new at one);
}
  where
    by : (at : ℕ) → IsSet new at ⊎ (IsSet all_after at × Allowed at) → IsSet new at ⊎ (IsSet all_after at × Other at)
    by at (inl one) = inl one
    by at (inr (one, allowed)) = inr (one, weaker at allowed)

pub next_from : (Allowed : ℕ → Type 0) (all new all_after new_after : List ℕ) → ((at : ℕ) → IsSet new at → ⊥) → Extends Allowed all new all_after new_after → IsNext Allowed all all_after new_after
next_from Allowed all new all_after new_after none extends = record {
  keeps = extends.keeps;
  only = extends.only;
  new_ones = λ at one. by at (extends.only_new at one);
}
  where
    by : (at : ℕ) → IsSet new at ⊎ (IsSet all_after at × Allowed at) → IsSet all_after at × Allowed at
    by at (inl one) = absurd (none at one)
    by at (inr both) = both

-- ---- words that are cleared

-- with one word more without bits, no place below it is marked
pub word_cleared : (words : List ℕ) (word at : ℕ) → word < length words → at < 64 * (word + 1) → ((other : ℕ) → other < 64 * word → IsSet words other → ⊥) → IsSet (set words word 0) at → ⊥
word_cleared words word at within low none one = by (cases_eq (at / 64) word)
  where
    by : (at / 64 ≡ word) ⊎ (at / 64 ≡ word → ⊥) → ⊥
    by (inl same) = no_mark (set words word 0) at (ap (λ (k : ℕ). get_or (set words word 0) k 0) same ∙ get_or-set_same words word 0 0 within) one
    by (inr differ) =
        none at (omega (arith, low, differ))
        (is_set words at (get_or (set words word 0) (at / 64) 0) (get_or-set_other words word (at / 64) 0 0 differ) (set_is (set words word 0) at (get_or (set words word 0) (at / 64) 0) refl one))
