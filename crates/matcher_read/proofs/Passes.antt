-- What the machine goes through: one front of the tokens behind the other, within levels, and without a fault.
use Rattle.std.proofs.Common.{◌≡◌, ℕ, ◌+◌, ◌≤◌, nat_le, Bool, true, false, cond, List, [], ◌∷◌, ◌++◌, Option, Some, None, option_and_then, Result, Ok, Err, refl, ap, ◌∙◌, arith}
use Rattle.std.proofs.lemmas.Bool.{leb-true, le-leb}
use Rattle.std.proofs.lemmas.Option.{none-some}
use Rattle.matcher_read.specs.Tokens.{Placed}
use Rattle.matcher_read.specs.declared.fault.MatcherFault.{MatcherFault}
use Rattle.matcher_read.specs.declared.fault.MatcherFault.TheVariants.{Unexpected}
use Rattle.matcher_read.specs.Helps.Machine.{State, step, goes, goes_within, levels_at, token_fault, after_fault, read_step, verdict}

-- ---- two fronts of the tokens

pub goes-append : (s : State) (ts us : List Placed) → goes s (ts ++ us) ≡ option_and_then (λ (next : State). goes next us) (goes s ts)
goes-append s [] us = refl
goes-append s (t ∷ ts) us = by_next (λ next. goes-append next ts us) (step s t)
  where
    by_next : ((next : State) → goes next (ts ++ us) ≡ option_and_then (λ (later : State). goes later us) (goes next ts)) → (o : Option State)
        → option_and_then (λ (next : State). goes next (ts ++ us)) o ≡ option_and_then (λ (later : State). goes later us) (option_and_then (λ (next : State). goes next ts) o)
    by_next more None = refl
    by_next more (Some next) = more next

-- the states behind the tokens, where the first of them is within the levels
abbrev within_then : State → Placed → ℕ → (State → Option State) → State → Option State
within_then s t most more next = cond (nat_le (levels_at s t.token next) most) (more next) None

cond-append : (b : Bool) (first both : Option State) (more : State → Option State) → both ≡ option_and_then more first → cond b both None ≡ option_and_then more (cond b first None)
cond-append true first both more e = e
cond-append false first both more e = refl

pub within-append : (most : ℕ) (s : State) (ts us : List Placed) → goes_within most s (ts ++ us) ≡ option_and_then (λ (next : State). goes_within most next us) (goes_within most s ts)
within-append most s [] us = refl
within-append most s (t ∷ ts) us = by_next (λ next. within-append most next ts us) (step s t)
  where
    by_next : ((next : State) → goes_within most next (ts ++ us) ≡ option_and_then (λ (later : State). goes_within most later us) (goes_within most next ts)) → (o : Option State)
        → option_and_then (within_then s t most (λ (next : State). goes_within most next (ts ++ us))) o
        ≡ option_and_then (λ (later : State). goes_within most later us) (option_and_then (within_then s t most (λ (next : State). goes_within most next ts)) o)
    by_next more None = refl
    by_next more (Some next) = cond-append (nat_le (levels_at s t.token next) most) (goes_within most next ts) (goes_within most next (ts ++ us)) (λ later. goes_within most later us) (more next)

-- a front that is gone through, and then the others
pub goes_behind : (s next : State) (ts us : List Placed) → goes s ts ≡ Some next → goes s (ts ++ us) ≡ goes next us
goes_behind s next ts us e = goes-append s ts us ∙ ap (option_and_then (λ (later : State). goes later us)) e

-- one token more
pub goes_one : (s next : State) (ts : List Placed) (t : Placed) → goes s ts ≡ Some next → goes s (ts ++ t ∷ []) ≡ step next t
goes_one s next ts t h = goes_behind s next ts (t ∷ []) h ∙ and_some (step next t)
  where
    and_some : (o : Option State) → option_and_then (λ (m : State). Some m) o ≡ o
    and_some None = refl
    and_some (Some m) = refl

pub within_behind : (most : ℕ) (s next : State) (ts us : List Placed) → goes_within most s ts ≡ Some next → goes_within most s (ts ++ us) ≡ goes_within most next us
within_behind most s next ts us e = within-append most s ts us ∙ ap (option_and_then (λ (later : State). goes_within most later us)) e

-- ---- with levels and without

pub cond_some : {A : Type 0} (b : Bool) (o : Option A) (x : A) → cond b o None ≡ Some x → (b ≡ true) × (o ≡ Some x)
cond_some true o x e = (refl, e)
cond_some false o x e = absurd (none-some x e)

pub within_goes : (most : ℕ) (s later : State) (ts : List Placed) → goes_within most s ts ≡ Some later → goes s ts ≡ Some later
within_goes most s later [] e = e
within_goes most s later (t ∷ ts) e = by_next (λ next. within_goes most next later ts) (step s t) e
  where
    by_next : ((next : State) → goes_within most next ts ≡ Some later → goes next ts ≡ Some later) → (o : Option State)
        → option_and_then (within_then s t most (λ (next : State). goes_within most next ts)) o ≡ Some later → option_and_then (λ (next : State). goes next ts) o ≡ Some later
    by_next more None e = absurd (none-some later e)
    by_next more (Some next) e = more next (cond_some (nat_le (levels_at s t.token next) most) (goes_within most next ts) later e).1

pub within_more : (most more : ℕ) (s later : State) (ts : List Placed) → most ≤ more → goes_within most s ts ≡ Some later → goes_within more s ts ≡ Some later
within_more most more s later [] h e = e
within_more most more s later (t ∷ ts) h e = by_next (λ next. within_more most more next later ts h) (step s t) e
  where
    by_next : ((next : State) → goes_within most next ts ≡ Some later → goes_within more next ts ≡ Some later) → (o : Option State)
        → option_and_then (within_then s t most (λ (next : State). goes_within most next ts)) o ≡ Some later
        → option_and_then (within_then s t more (λ (next : State). goes_within more next ts)) o ≡ Some later
    by_next others None e = absurd (none-some later e)
    by_next others (Some next) e =
        let both = cond_some (nat_le (levels_at s t.token next) most) (goes_within most next ts) later e in
        let small = leb-true (levels_at s t.token next) most both.0 in
        ap (λ (b : Bool). cond b (goes_within more next ts) None) (le-leb (levels_at s t.token next) more (omega arith)) ∙ others next both.1

-- what is gone through is gone through within some levels
pub goes_levels : (s later : State) (ts : List Placed) → goes s ts ≡ Some later → (most : ℕ) × (goes_within most s ts ≡ Some later)
goes_levels s later [] e = (0, e)
goes_levels s later (t ∷ ts) e = by_next (λ next. goes_levels next later ts) (step s t) e
  where
    by_next : ((next : State) → goes next ts ≡ Some later → (most : ℕ) × (goes_within most next ts ≡ Some later)) → (o : Option State)
        → option_and_then (λ (next : State). goes next ts) o ≡ Some later
        → (most : ℕ) × (option_and_then (within_then s t most (λ (next : State). goes_within most next ts)) o ≡ Some later)
    by_next others None e = absurd (none-some later e)
    by_next others (Some next) e =
        let found = others next e in
        let most = levels_at s t.token next + found.0 in (
          most,
          ap (λ (b : Bool). cond b (goes_within most next ts) None) (le-leb (levels_at s t.token next) most (omega arith))
              ∙ within_more found.0 most next later ts (omega arith) found.1,
        )

-- ---- reading without a fault

-- the state behind tokens that are all read, or the first fault
abbrev pub reads : State → List Placed → Result State MatcherFault
reads s [] = Ok s
reads s (t ∷ ts) = elim (read_step s t) [
  | Ok next ↦ reads next ts
  | Err fault ↦ Err fault
]

abbrev pub read_on : {A : Type 0} → (State → Result A MatcherFault) → Result State MatcherFault → Result A MatcherFault
read_on more (Ok next) = more next
read_on more (Err fault) = Err fault

pub reads-append : (s : State) (ts us : List Placed) → reads s (ts ++ us) ≡ read_on (λ (next : State). reads next us) (reads s ts)
reads-append s [] us = refl
reads-append s (t ∷ ts) us = by_read (λ next. reads-append next ts us) (read_step s t)
  where
    by_read : ((next : State) → reads next (ts ++ us) ≡ read_on (λ (later : State). reads later us) (reads next ts)) → (r : Result State MatcherFault)
        → read_on (λ (next : State). reads next (ts ++ us)) r ≡ read_on (λ (later : State). reads later us) (read_on (λ (next : State). reads next ts) r)
    by_read more (Ok next) = more next
    by_read more (Err fault) = refl

-- reading goes on from the state behind tokens that are read
pub reads_behind : (s next : State) (ts us : List Placed) → reads s ts ≡ Ok next → reads s (ts ++ us) ≡ reads next us
reads_behind s next ts us e = reads-append s ts us ∙ ap (read_on (λ (later : State). reads later us)) e

pub verdict-append : (size : ℕ) (stray : Option ℕ) (s : State) (ts us : List Placed) → verdict size stray s (ts ++ us) ≡ read_on (λ (next : State). verdict size stray next us) (reads s ts)
verdict-append size stray s [] us = refl
verdict-append size stray s (t ∷ ts) us = by_read (λ next. verdict-append size stray next ts us) (read_step s t)
  where
    by_read : ((next : State) → verdict size stray next (ts ++ us) ≡ read_on (λ (later : State). verdict size stray later us) (reads next ts)) → (r : Result State MatcherFault)
        → read_on (λ (next : State). verdict size stray next (ts ++ us)) r ≡ read_on (λ (later : State). verdict size stray later us) (read_on (λ (next : State). reads next ts) r)
    by_read more (Ok next) = more next
    by_read more (Err fault) = refl

-- the verdict goes on from the state behind tokens that are read, and ends at their first fault
pub verdict_behind : (size : ℕ) (stray : Option ℕ) (s next : State) (ts us : List Placed) → reads s ts ≡ Ok next → verdict size stray s (ts ++ us) ≡ verdict size stray next us
verdict_behind size stray s next ts us e = verdict-append size stray s ts us ∙ ap (read_on (λ (later : State). verdict size stray later us)) e

-- one token: it is read, it meets a fault, or it may not stand there
abbrev read_by : State → Placed → Option State → Result State MatcherFault
read_by s t o = elim o [
  | None ↦ Err (Unexpected t.at)
  | Some later ↦ after_fault later (token_fault s later t.at t.token)
]

pub read_some : (s next : State) (t : Placed) → step s t ≡ Some next → read_step s t ≡ after_fault next (token_fault s next t.at t.token)
read_some s next t e = ap (read_by s t) e

pub read_one : (s next : State) (t : Placed) → step s t ≡ Some next → token_fault s next t.at t.token ≡ None → read_step s t ≡ Ok next
read_one s next t e f = read_some s next t e ∙ ap (after_fault next) f

pub read_fault : (s next : State) (t : Placed) (fault : MatcherFault) → step s t ≡ Some next → token_fault s next t.at t.token ≡ Some fault → read_step s t ≡ Err fault
read_fault s next t fault e f = read_some s next t e ∙ ap (after_fault next) f

pub read_none : (s : State) (t : Placed) → step s t ≡ None → read_step s t ≡ Err (Unexpected t.at)
read_none s t e = ap (read_by s t) e

-- the verdict over it
pub verdict_next : (size : ℕ) (stray : Option ℕ) (s next : State) (t : Placed) (us : List Placed) → step s t ≡ Some next → token_fault s next t.at t.token ≡ None → verdict size stray s (t ∷ us) ≡ verdict size stray next us
verdict_next size stray s next t us e f = ap (read_on (λ (later : State). verdict size stray later us)) (read_one s next t e f)

pub verdict_meets : (size : ℕ) (stray : Option ℕ) (s next : State) (t : Placed) (us : List Placed) (fault : MatcherFault) → step s t ≡ Some next → token_fault s next t.at t.token ≡ Some fault → verdict size stray s (t ∷ us) ≡ Err fault
verdict_meets size stray s next t us fault e f = ap (read_on (λ (later : State). verdict size stray later us)) (read_fault s next t fault e f)

pub verdict_none : (size : ℕ) (stray : Option ℕ) (s : State) (t : Placed) (us : List Placed) → step s t ≡ None → verdict size stray s (t ∷ us) ≡ Err (Unexpected t.at)
verdict_none size stray s t us e = ap (read_on (λ (later : State). verdict size stray later us)) (read_none s t e)

-- ---- both together

-- the machine goes through the tokens within so many levels, and reads them without a fault where they are fine
pub record Passes (most : ℕ) (fine : Type 0) (s : State) (ts : List Placed) (next : State) : Type 0 where
  pub within : goes_within most s ts ≡ Some next
  pub without_fault : fine → reads s ts ≡ Ok next

pub passes_both : {most : ℕ} {fine : Type 0} (s next later : State) (ts us : List Placed) → Passes most fine s ts next → Passes most fine next us later → Passes most fine s (ts ++ us) later
passes_both {most} s next later ts us p q = record {
  within = within_behind most s next ts us p.within ∙ q.within;
  without_fault = λ h. reads_behind s next ts us (p.without_fault h) ∙ q.without_fault h;
}

pub passes_more : {most : ℕ} {fine : Type 0} (s next later : State) (t : Placed) (ts : List Placed) → step s t ≡ Some next → levels_at s t.token next ≤ most → (fine → token_fault s next t.at t.token ≡ None)
    → Passes most fine next ts later → Passes most fine s (t ∷ ts) later
passes_more {most} s next later t ts e small sound p = record {
  within = ap (option_and_then (within_then s t most (λ (n : State). goes_within most n ts))) e ∙ ap (λ (b : Bool). cond b (goes_within most next ts) None) (le-leb (levels_at s t.token next) most small) ∙ p.within;
  without_fault = λ h. ap (read_on (λ (n : State). reads n ts)) (read_one s next t e (sound h)) ∙ p.without_fault h;
}

pub passes_none : {most : ℕ} {fine : Type 0} (s : State) → Passes most fine s [] s
passes_none s = record { within = refl; without_fault = λ h. refl }

pub passes_weaker : {most : ℕ} {fine more : Type 0} (s next : State) (ts : List Placed) → (more → fine) → Passes most fine s ts next → Passes most more s ts next
passes_weaker s next ts h p = record { within = p.within; without_fault = λ k. p.without_fault (h k) }
