-- The first fault of tokens is the one that the machine meets.
use Rattle.std.proofs.Common.{◌≡◌, ℕ, ◌+◌, ◌<◌, ◌≤◌, ◌⊎◌, inl, inr, Bool, true, false, cond, nat_le, List, [], ◌∷◌, ◌++◌, Option, Some, None, option_and_then, Result, Ok, Err, refl, sym, ap, ◌∙◌, subst, arith, leb-true}
use Rattle.matcher_read.specs.Expression.{Expression, nodes}
use Rattle.matcher_read.specs.Faults.{AreFine, IsFirst, at_token, at_stray, at_end, too_many_nodes}
use Rattle.matcher_read.specs.Grammar.{Derives, or_rule}
use Rattle.matcher_read.specs.Matcher.{most_levels, most_nodes}
use Rattle.matcher_read.specs.Tokens.{Placed}
use Rattle.matcher_read.specs.declared.fault.MatcherFault.{MatcherFault}
use Rattle.matcher_read.specs.declared.fault.MatcherFault.TheVariants as fault
use Rattle.matcher_read.specs.Helps.Machine.{State, start, step, depth, levels_at, goes, goes_within, token_fault, after_fault, read_step, final_value, finish, verdict}
use Rattle.matcher_read.proofs.TokenFaults.{deep_fault, deep_opens, met_step, shallow, step_met}
use Rattle.matcher_read.proofs.Depths.{depth_reached}
use Rattle.matcher_read.proofs.Opens.{whole_within}
use Rattle.matcher_read.proofs.Passes.{read_none, read_on, read_some, reads, reads_behind, within_goes}
use Rattle.matcher_read.proofs.Runs.{derives_final}

pub then_ok : {B : Type 0} (f : State → Result B MatcherFault) (r : Result State MatcherFault) (b : B) → read_on f r ≡ Ok b → (s : State) × (r ≡ Ok s) × (f s ≡ Ok b)
then_ok f (Ok s) b h = (s, refl, h)
then_ok f (Err e) b h = absurd cc

-- the verdict is that at the end, behind tokens that are read
pub verdict_reads : (size : ℕ) (stray : Option ℕ) (s : State) (ts : List Placed) → verdict size stray s ts ≡ read_on (finish size stray) (reads s ts)
verdict_reads size stray s [] = refl
verdict_reads size stray s (t ∷ ts) = by_step (λ next. verdict_reads size stray next ts) (read_step s t) refl
  where
    by_step : ((next : State) → verdict size stray next ts ≡ read_on (finish size stray) (reads next ts)) → (r : Result State MatcherFault) → read_step s t ≡ r → verdict size stray s (t ∷ ts) ≡ read_on (finish size stray) (read_on (λ next. reads next ts) (read_step s t))
    by_step later (Ok next) h = rw (h, verdict) (later next)
    by_step later (Err f) h = rw (h, verdict) refl

-- what is read leads to a state, within the levels
read_steps : (s next : State) (t : Placed) → depth s ≤ most_levels → read_step s t ≡ Ok next → (step s t ≡ Some next) × (nat_le (levels_at s t.token next) most_levels ≡ true)
read_steps s next t h read = by_step (step s t) refl
  where
    fine : (m : State) (o : Option MatcherFault) → after_fault m o ≡ Ok next → (m ≡ next) × (o ≡ None)
    fine m None e = (cc, refl)
    fine m (Some f) e = absurd cc

    by_depth : (m : State) (b : Bool) → nat_le (levels_at s t.token m) most_levels ≡ b → step s t ≡ Some m → token_fault s m t.at t.token ≡ None → nat_le (levels_at s t.token m) most_levels ≡ true
    by_depth m true fits stepped none = fits
    by_depth m false deep stepped none =
        let opens = deep_opens s m t.at t.token h stepped deep in
        absurd (let e : Some (fault.TooDeep opens.0) ≡ None = sym (deep_fault s m opens.1 deep) ∙ none in cc)

    by_step : (o : Option State) → step s t ≡ o → (step s t ≡ Some next) × (nat_le (levels_at s t.token next) most_levels ≡ true)
    by_step None stepped = absurd (let e : Err (fault.Unexpected t.at) ≡ Ok next = sym (read_none s t stepped) ∙ read in cc)
    by_step (Some m) stepped =
        let is = fine m (token_fault s m t.at t.token) (sym (read_some s m t stepped) ∙ read) in
        (stepped ∙ ap (λ x. Some x) is.0, ap (λ x. nat_le (levels_at s t.token x) most_levels) (sym is.0) ∙ by_depth m (nat_le (levels_at s t.token m) most_levels) refl stepped is.1)

pub reads_within : (s last : State) (ts : List Placed) → depth s ≤ most_levels → reads s ts ≡ Ok last → goes_within most_levels s ts ≡ Some last
reads_within s last [] h read = cc
reads_within s last (t ∷ ts) h read =
    let cut = then_ok (λ next. reads next ts) (read_step s t) last read in
    let one = read_steps s cut.0 t h cut.1 in
    let few = leb-true (levels_at s t.token cut.0) most_levels one.1 in
    let rest = reads_within cut.0 last ts (omega (arith, few, depth_reached s cut.0 t one.0)) cut.2 in
    ap (option_and_then (λ m. shallow s t most_levels m (goes_within most_levels m ts))) one.0 ∙ (ap (λ b. cond b (goes_within most_levels cut.0 ts) None) one.1 ∙ rest)

reads_front : (s last : State) (ts us : List Placed) → reads s (ts ++ us) ≡ Ok last → (m : State) × (reads s ts ≡ Ok m) × (reads m us ≡ Ok last)
reads_front s last [] us h = (s, refl, h)
reads_front s last (t ∷ ts) us h =
    let cut = then_ok (λ next. reads next (ts ++ us)) (read_step s t) last h in
    let rest = reads_front cut.0 last ts us cut.2 in
    (rest.0, ap (read_on (λ next. reads next ts)) cut.1 ∙ rest.1, rest.2)

-- where tokens stop being read
pub record StopsAt (s : State) (ts : List Placed) (f : MatcherFault) : Type 0 where
  pub before : List Placed
  pub token : Placed
  pub behind : List Placed
  pub split : ts ≡ before ++ token ∷ behind
  pub state : State
  pub read : reads s before ≡ Ok state
  pub failed : read_step state token ≡ Err f

stops_at : (s : State) (ts : List Placed) (f : MatcherFault) → reads s ts ≡ Err f → StopsAt s ts f
stops_at s [] f h = absurd cc
stops_at s (t ∷ ts) f h = by_step (λ next. stops_at next ts f) (read_step s t) refl
  where
    by_step : ((next : State) → reads next ts ≡ Err f → StopsAt next ts f) → (r : Result State MatcherFault) → read_step s t ≡ r → StopsAt s (t ∷ ts) f
    by_step later (Err g) failed =
        let same : Err g ≡ Err f = ap (read_on (λ next. reads next ts)) (sym failed) ∙ h in
        record { before = []; token = t; behind = ts; split = refl; state = s; read = refl; failed = failed ∙ same }
    by_step later (Ok next) read =
        let rest = later next (ap (read_on (λ m. reads m ts)) (sym read) ∙ h) in
        record { before = t ∷ rest.before; token = rest.token; behind = rest.behind; split = ap (λ us. t ∷ us) rest.split; state = rest.state; read = ap (read_on (λ m. reads m rest.before)) read ∙ rest.read; failed = rest.failed }

-- tokens that are read are fine
pub read_fine : (ts : List Placed) (s : State) → reads start ts ≡ Ok s → AreFine ts
read_fine ts s h before behind t f split met =
    let cut = reads_front start s before (t ∷ behind) (ap (reads start) (sym split) ∙ h) in
    let one = then_ok (λ next. reads next behind) (read_step cut.0 t) s cut.2 in
    let failed = met_step before cut.0 (reads_within start cut.0 before (omega arith) cut.1) met in
    let e : Err f ≡ Ok one.0 = sym failed ∙ one.1 in absurd cc

-- tokens that are fine are read
pub fine_read : (ts : List Placed) → AreFine ts → (s : State) × (reads start ts ≡ Ok s)
fine_read ts fine = by_reads (reads start ts) refl
  where
    by_reads : (r : Result State MatcherFault) → reads start ts ≡ r → (s : State) × (reads start ts ≡ Ok s)
    by_reads (Ok s) h = (s, h)
    by_reads (Err f) h =
        let stop = stops_at start ts f h in
        absurd (fine stop.before stop.behind stop.token f stop.split (step_met stop.before stop.state stop.token f (reads_within start stop.state stop.before (omega arith) stop.read) stop.failed))

-- the value at the end of tokens that derive
whole_final : {n : ℕ} {ts : List Placed} {e : Expression} → Derives n or_rule ts e → (s : State) → goes start ts ≡ Some s → final_value s ≡ Some e
whole_final {n} {ts} {e} derived s gone =
    let run = derives_final derived in
    let there : Some s ≡ Some run.0 = sym gone ∙ within_goes n start run.0 ts run.1 in
    ap final_value (let is : s ≡ run.0 = cc in is) ∙ run.2

-- the first fault that the machine meets is that of the tokens
pub verdict_first : (size : ℕ) (stray : Option ℕ) (ts : List Placed) (f : MatcherFault) → verdict size stray start ts ≡ Err f → IsFirst size ts stray f
verdict_first size stray ts f h = by_reads (reads start ts) refl
  where
    by_value : (s : State) → reads start ts ≡ Ok s → (o : Option Expression) → final_value s ≡ o → finish size None s ≡ Err f → IsFirst size ts None f
    by_value s read (Some e) value failed = absurd (let bad : Ok e ≡ Err f = sym (rw (value, finish) refl) ∙ failed in cc)
    by_value s read None value failed =
        let same : Err (fault.Unexpected (size + 1)) ≡ Err f = sym (rw (value, finish) refl) ∙ failed in
        subst (IsFirst size ts None) (let e : fault.Unexpected (size + 1) ≡ f = cc in e) (at_end (read_fine ts s read) (λ (levels, e, derived).
        let final = whole_final derived s (within_goes most_levels start s ts (reads_within start s ts (omega arith) read)) in
        let bad : None ≡ Some e = sym value ∙ final in absurd cc))

    by_stray : (o : Option ℕ) (s : State) → reads start ts ≡ Ok s → finish size o s ≡ Err f → IsFirst size ts o f
    by_stray (Some place) s read failed = subst (IsFirst size ts (Some place)) (let e : fault.Unexpected place ≡ f = cc in e) (at_stray (read_fine ts s read))
    by_stray None s read failed = by_value s read (final_value s) refl failed

    by_reads : (r : Result State MatcherFault) → reads start ts ≡ r → IsFirst size ts stray f
    by_reads (Ok s) read = by_stray stray s read (sym (ap (read_on (finish size stray)) read) ∙ (sym (verdict_reads size stray start ts) ∙ h))
    by_reads (Err g) failed =
        let same : Err g ≡ Err f = sym (ap (read_on (finish size stray)) failed) ∙ (sym (verdict_reads size stray start ts) ∙ h) in
        let stop = stops_at start ts g failed in
        let met = step_met stop.before stop.state stop.token g (reads_within start stop.state stop.before (omega arith) stop.read) stop.failed in
        subst (IsFirst size ts stray) (let e : g ≡ f = cc in e) (at_token stop.before stop.behind stop.split (read_fine stop.before stop.state stop.read) met)

-- the verdict that goes with a first fault; too many nodes are no fault of the machine
abbrev pub Shows : Result Expression MatcherFault → MatcherFault → Type 0
Shows r f = (r ≡ Err f) ⊎ ((e : Expression) × (r ≡ Ok e) × (f ≡ fault.TooManyNodes) × (most_nodes < nodes e))

pub first_verdict : {size : ℕ} {stray : Option ℕ} {ts : List Placed} {f : MatcherFault} → IsFirst size ts stray f → Shows (verdict size stray start ts) f
first_verdict {size} {stray} {ts} {f} (at_token before behind {t = t} split fine met) =
    let read = fine_read before fine in
    let failed = met_step before read.0 (reads_within start read.0 before (omega arith) read.1) met in
    inl (verdict_reads size stray start ts ∙ ap (read_on (finish size stray)) (ap (reads start) split ∙ (reads_behind start read.0 before (t ∷ behind) read.1 ∙ ap (read_on (λ next. reads next behind)) failed)))
first_verdict {size} {ts = ts} (at_stray {place = place} fine) =
    let read = fine_read ts fine in
    inl (verdict_reads size (Some place) start ts ∙ ap (read_on (finish size (Some place))) read.1)
first_verdict {size} {ts = ts} (at_end fine closed) = by_value (final_value read.0) refl
  where
    read : (s : State) × (reads start ts ≡ Ok s)
    read = fine_read ts fine

    by_value : (o : Option Expression) → final_value read.0 ≡ o → Shows (verdict size None start ts) (fault.Unexpected (size + 1))
    by_value None value = inl (verdict_reads size None start ts ∙ (ap (read_on (finish size None)) read.1 ∙ rw (value, finish) refl))
    by_value (Some e) value = absurd (closed (most_levels, e, whole_within most_levels ts read.0 e (reads_within start read.0 ts (omega arith) read.1) value))
first_verdict {size} {ts = ts} (too_many_nodes {e = e} fine derived many) =
    let read = fine_read ts fine in
    let value = whole_final derived read.0 (within_goes most_levels start read.0 ts (reads_within start read.0 ts (omega arith) read.1)) in
    inr (e, verdict_reads size None start ts ∙ (ap (read_on (finish size None)) read.1 ∙ rw (value, finish) refl), refl, many)
