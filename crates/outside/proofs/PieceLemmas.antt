-- Reading and writing piece by piece.
use Rattle.std.proofs.Common.{◌≡◌, ℕ, ◌+◌, ◌-◌, ◌≤◌, List, ◌++◌, length, take, drop, sym, ap, ◌∙◌, arith}
use Rattle.std.specs.Prelude.{Option}
use Rattle.std.proofs.Math.Seq.{take-add}
use Rattle.std.proofs.lemmas.List.{take_rest, take_at, drop-drop, length-drop, take-append-drop}
use Rattle.outside.specs.Told.{with_front, with_back, HasRead, TookFront}
use Rattle.outside.proofs.CallerLemmas.{with_front-append, with_back-append}

-- how far a loop has pushed
pub record IsPushed (before now : Option (List ℕ)) (bytes : List ℕ) (at faults_before faults_now : ℕ) : Type 0 where
  pub within : at ≤ length bytes
  pub took : now ≡ with_back before (take at bytes)
  pub counted : faults_before ≤ faults_now

-- how far a loop has read
pub record IsRead (most : ℕ) (before now : Option (List ℕ)) (ends ends_now : Option ℕ) (bytes : List ℕ) (faults_before faults_now : ℕ) : Type 0 where
  pub within : length bytes ≤ most
  pub read : before ≡ with_front bytes now
  pub not_ended : ends_now ≡ ends
  pub counted : faults_before ≤ faults_now

-- the piece from a place to the end
abbrev rest_of : ℕ → List ℕ → List ℕ
rest_of at bytes = take (length bytes - at) (drop at bytes)

rest_of-is : (at : ℕ) (bytes : List ℕ) → rest_of at bytes ≡ drop at bytes
rest_of-is at bytes = take_rest bytes at

pub pushed_on : (before mid now : Option (List ℕ)) (bytes : List ℕ) (at n a b c : ℕ) → IsPushed before mid bytes at a b → n ≤ length (rest_of at bytes) → now ≡ with_back mid (take n (rest_of at bytes)) → b ≤ c → IsPushed before now bytes (at + n) a c
pushed_on before mid now bytes at n a b c so_far within took counted =
    let rest = rest_of-is at bytes in
    let mid_is = so_far.took in
    record {
      within = omega (arith, so_far.within, ap length rest, length-drop at bytes);
      took = rw (took, mid_is, rest, with_back-append before (take at bytes) (take n (drop at bytes))) (ap (with_back before) (sym (take-add at n bytes)));
      counted = omega (arith, so_far.counted);
    }

pub pushed_front : (before now : Option (List ℕ)) (bytes : List ℕ) (at a b : ℕ) → IsPushed before now bytes at a b → TookFront before now bytes
pushed_front before now bytes at a b so_far = record { front = take at bytes; rest = drop at bytes; parts = sym (take-append-drop at bytes); took = so_far.took }

-- the bytes that were read before a piece, and the piece
pub read_on : (most : ℕ) (before mid now : Option (List ℕ)) (ends ends_mid : Option ℕ) (bytes more : List ℕ) (a b : ℕ) → IsRead most before mid ends ends_mid bytes a b → mid ≡ with_front more now → HasRead before now
read_on most before mid now ends ends_mid bytes more a b so_far given = record { bytes = bytes ++ more; read = rw (so_far.read, given) (with_front-append now bytes more) }

-- what a piece took from the bytes that were left, and what is left
pub given_is : (bytes piece buf : List ℕ) (at n : ℕ) → piece ≡ take (at + n - at) (drop at bytes) → length piece ≡ n → drop at bytes ≡ take n (piece ++ drop n buf) ++ drop (at + n) bytes
given_is bytes piece buf at n cut len =
    let count : at + n - at ≡ n = omega arith in
    let front : take n (piece ++ drop n buf) ≡ take n (drop at bytes) = take_at piece (drop n buf) n len ∙ cut ∙ ap (λ k. take k (drop at bytes)) count in
    rw (front, ← drop-drop n at bytes) (sym (take-append-drop n (drop at bytes)))
