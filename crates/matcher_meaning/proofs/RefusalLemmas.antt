-- Where a search is refused, a fact holds of a result as it was, or of the fault of that search.
use Rattle.std.proofs.Common.{if◌then◌else◌, ◌≡◌, ◌⊎◌, inl, inr, ℕ, ◌==◌, ◌&&◌, Bool, true, false, List, Option, Some, None, Result, Ok, Err, refl, sym, ap}
use Rattle.std.proofs.lemmas.Bool.{eqb-true}
use Rattle.std.specs.Str.{bytes_eq}
use Rattle.effect_fold.specs.declared.fault.Cause.TheVariants.{Pattern}
use Rattle.effect_fold.specs.declared.fault.Fault.{Fault}
use Rattle.matcher_read.specs.declared.tree.Function.{Function}
use Rattle.matcher_read.specs.declared.tree.Function.TheVariants as f
use Rattle.perm_value.specs.Datum.{Datum}
use Rattle.regex_gate.specs.Found.{has_match}
use Rattle.matcher_meaning.specs.Answers.{Evaluation, fails, After, Unless}
use Rattle.matcher_meaning.specs.Calls.{is_refused, matched, OfTwo}
use Rattle.matcher_meaning.specs.Operators.{ended_among}

-- what holds of a result where nothing is refused holds where a search is refused, or its fault does
abbrev pub Keeps : {X : Type 0} → ℕ → (P Q : Result X Fault → Type 0) → Type 0
Keeps {X} at P Q = (r : Result X Fault) → P r → Q r ⊎ Q (fails Pattern at)

pub then_keeps : {X Y : Type 0} (at : ℕ) (P Q : Result X Fault → Type 0) (next : Result X Fault → Result Y Fault) → next (fails Pattern at) ≡ fails Pattern at → Keeps at P Q
    → Keeps at (λ r. (x : Result X Fault) × P x × (r ≡ next x)) (λ r. (x : Result X Fault) × Q x × (r ≡ next x))
then_keeps {X} {Y} at P Q next stays keep r (x, p, e) = go (keep x p)
  where
    go : Q x ⊎ Q (fails Pattern at) → ((y : Result X Fault) × Q y × (r ≡ next y)) ⊎ ((y : Result X Fault) × Q y × (fails Pattern at ≡ next y))
    go (inl q) = inl (x, q, e)
    go (inr q) = inr (fails Pattern at, q, sym stays)

pub after_keeps : {X Y : Type 0} (at : ℕ) (P Q : Result X Fault → Type 0) (R S : X → Result Y Fault → Type 0) → Keeps at P Q → ((x : X) → Keeps at (R x) (S x))
    → Keeps at (λ r. (x : Result X Fault) × P x × After x (λ d. R d r) r) (λ r. (x : Result X Fault) × Q x × After x (λ d. S d r) r)
after_keeps {X} {Y} at P Q R S keep next r (x, p, after) = first (keep x p)
  where
    Kept : Result Y Fault → Type 0
    Kept r = (y : Result X Fault) × Q y × After y (λ d. S d r) r

    second : (y : Result X Fault) → Q y → After y (λ d. R d r) r → Kept r ⊎ Kept (fails Pattern at)
    second (Err fault) q e = inl (Err fault, q, e)
    second (Ok d) q e = third (next d r e)
      where
        third : S d r ⊎ S d (fails Pattern at) → Kept r ⊎ Kept (fails Pattern at)
        third (inl s) = inl (Ok d, q, s)
        third (inr s) = inr (Ok d, q, s)

    first : Q x ⊎ Q (fails Pattern at) → Kept r ⊎ Kept (fails Pattern at)
    first (inl q) = second x q after
    first (inr q) = inr (fails Pattern at, q, refl)

pub unless_keeps : (at : ℕ) (there : Option Evaluation) (P Q : Evaluation → Type 0) → Keeps at P Q → Keeps at (λ r. Unless there (P r) r) (λ r. Unless there (Q r) r)
unless_keeps at (Some answer) P Q keep r p = inl p
unless_keeps at None P Q keep r p = keep r p

abbrev failing : ℕ → Evaluation
failing at = fails Pattern at

left_true : (a b : Bool) → (a && b) ≡ true → a ≡ true
left_true true b h = refl
left_true false b h = h

same_place : (at place : ℕ) (same : Bool) → (at == place && same) ≡ true → place ≡ at
same_place at place same h = sym (eqb-true at place (left_true (at == place) same h))

test_keeps : (at place : ℕ) (pattern given : List ℕ) (r other : Evaluation) (same : Bool) → (same ≡ true → place ≡ at) → r ≡ other
    → (r ≡ if same then fails Pattern place else other) ⊎ (fails Pattern at ≡ if same then fails Pattern place else other)
test_keeps at place pattern given r other true here e = inr (ap (λ (n : ℕ). failing n) (sym (here refl)))
test_keeps at place pattern given r other false here e = inl e

pub two_keeps : (at : ℕ) (pattern : List ℕ) (place : ℕ) (called : Function) (s t : List ℕ) → Keeps at (OfTwo None place called s t) (OfTwo (Some (at, pattern)) place called s t)
two_keeps at pattern place f.RegexMatch s t r e =
    test_keeps at place pattern t r (matched place (has_match t s)) (is_refused (Some (at, pattern)) place t) (same_place at place (bytes_eq pattern t)) e
two_keeps at pattern place f.KeyMatch s t r p = inl p
two_keeps at pattern place f.KeyMatch2 s t r p = inl p
two_keeps at pattern place f.KeyMatch3 s t r p = inl p
two_keeps at pattern place f.KeyMatch4 s t r p = inl p
two_keeps at pattern place f.KeyMatch5 s t r p = inl p
two_keeps at pattern place f.GlobMatch s t r p = inl p
two_keeps at pattern place f.IpMatch s t r p = inl p
two_keeps at pattern place f.KeyGet s t r p = inl p
two_keeps at pattern place f.KeyGet2 s t r p = inl p
two_keeps at pattern place f.KeyGet3 s t r p = inl p

-- the same with the premise that a value that was found may not be
pub found_keeps : (at : ℕ) (P Q : Evaluation → Type 0) (R S : Evaluation → Type 0) (d : Datum) → Keeps at P Q → Keeps at R S
    → Keeps at (λ r. (x : Evaluation) × P x × Unless (ended_among d x) (R r) r) (λ r. (x : Evaluation) × Q x × Unless (ended_among d x) (S r) r)
found_keeps at P Q R S d keep rest r (x, p, unless) = first (keep x p)
  where
    Kept : Evaluation → Type 0
    Kept r = (y : Evaluation) × Q y × Unless (ended_among d y) (S r) r

    second : Q x → Unless (ended_among d x) (S r) r ⊎ Unless (ended_among d x) (S (fails Pattern at)) (fails Pattern at) → Kept r ⊎ Kept (fails Pattern at)
    second q (inl u) = inl (x, q, u)
    second q (inr u) = inr (x, q, u)

    first : Q x ⊎ Q (fails Pattern at) → Kept r ⊎ Kept (fails Pattern at)
    first (inl q) = second q (unless_keeps at (ended_among d x) R S rest r unless)
    first (inr q) = inr (fails Pattern at, q, refl)
