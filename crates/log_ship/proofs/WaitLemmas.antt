-- Edits that wait, by rising number.
use Rattle.std.proofs.Common.{◌≡◌, ℕ, zero, suc, ◌+◌, ◌<◌, ◌≤◌, ◌||◌, Bool, true, false, cond, eqb, List, [], ◌∷◌, drop, take, length, refl, ap, subst, ◌∙◌, arith}
use Rattle.std.specs.Prelude.{nat_le, nat_lt}
use Rattle.std.specs.List.{AllByRecursion, insert, list_any, prefix_len}
use Rattle.std.proofs.lemmas.Bool.{eqb-false, eqb-true, le-leb, lt-leb, lt-ltb, ltb-false, ltb-true, or_parts}
use Rattle.log_ship.specs.Followers.{Held, Rises}
use Rattle.log_ship.specs.Helps.Waits.{held_by, run_len}
use Rattle.log_ship.specs.Taken.{put, run_from, waits}
use Rattle.policy_table.specs.declared.change.Change.{Change}
use Rattle.version_log.specs.Log.{most_versions}

-- ---- numbers beside edits

pub waits_held : (number : ℕ) (numbers : List ℕ) (edits : List (List Change)) → length numbers ≡ length edits → list_any (λ (n : ℕ). eqb n number) numbers ≡ waits number (held_by numbers edits)
waits_held number [] edits sizes = refl
waits_held number (n ∷ numbers) [] sizes = absurd (omega (arith, sizes))
waits_held number (n ∷ numbers) (edit ∷ edits) sizes = ap (λ (b : Bool). eqb n number || b) (waits_held number numbers edits (omega (arith, sizes)))

-- the place of a number among rising ones
abbrev pub place_in : ℕ → List ℕ → ℕ
place_in number numbers = prefix_len (λ (other : ℕ). nat_le other number) numbers

not_below : (one other : ℕ) → nat_lt one other ≡ true → nat_le other one ≡ false
not_below one other e = lt-leb other one (ltb-true one other e)

pub put_held : (number : ℕ) (edit : List Change) (numbers : List ℕ) (edits : List (List Change)) → length numbers ≡ length edits
    → held_by (insert numbers (place_in number numbers) number) (insert edits (place_in number numbers) edit) ≡ put (record { number = number; edit = edit }) (held_by numbers edits)
put_held number edit [] [] sizes = refl
put_held number edit [] (other ∷ edits) sizes = absurd (omega (arith, sizes))
put_held number edit (n ∷ numbers) [] sizes = absurd (omega (arith, sizes))
put_held number edit (n ∷ numbers) (other ∷ edits) sizes = by (nat_lt number n) refl (put_held number edit numbers edits (omega (arith, sizes)))
  where
    by : (b : Bool) → nat_lt number n ≡ b
        → held_by (insert numbers (place_in number numbers) number) (insert edits (place_in number numbers) edit) ≡ put (record { number = number; edit = edit }) (held_by numbers edits)
        → held_by (insert (n ∷ numbers) (place_in number (n ∷ numbers)) number) (insert (other ∷ edits) (place_in number (n ∷ numbers)) edit)
        ≡ cond b (record { number = number; edit = edit } ∷ record { number = n; edit = other } ∷ held_by numbers edits) (record { number = n; edit = other } ∷ put (record { number = number; edit = edit }) (held_by numbers edits))
    by true e rest =
        let place : place_in number (n ∷ numbers) ≡ 0 = ap (λ (b : Bool). cond b (1 + place_in number numbers) 0) (not_below number n e) in
        ap (λ (k : ℕ). held_by (insert (n ∷ numbers) k number) (insert (other ∷ edits) k edit)) place
    by false e rest =
        let place : place_in number (n ∷ numbers) ≡ suc (place_in number numbers)
        = ap (λ (b : Bool). cond b (1 + place_in number numbers) 0) (le-leb n number (ltb-false number n e)) ∙ omega arith in
        ap (λ (k : ℕ). held_by (insert (n ∷ numbers) k number) (insert (other ∷ edits) k edit)) place
        ∙ ap (λ (l : List Held). record { number = n; edit = other } ∷ l) rest

pub run_held : (number : ℕ) (numbers : List ℕ) (edits : List (List Change)) → length numbers ≡ length edits → take (run_len number numbers) edits ≡ run_from number (held_by numbers edits)
run_held number [] edits sizes = refl
run_held number (n ∷ numbers) [] sizes = absurd (omega (arith, sizes))
run_held number (n ∷ numbers) (edit ∷ edits) sizes = by (eqb n number) (run_held (number + 1) numbers edits (omega (arith, sizes)))
  where
    by : (b : Bool) → take (run_len (number + 1) numbers) edits ≡ run_from (number + 1) (held_by numbers edits)
        → take (cond b (suc (run_len (number + 1) numbers)) 0) (edit ∷ edits) ≡ cond b (edit ∷ run_from (number + 1) (held_by numbers edits)) []
    by true rest = ap (λ (l : List (List Change)). edit ∷ l) rest
    by false rest = refl

pub run_len-le : (number : ℕ) (numbers : List ℕ) → run_len number numbers ≤ length numbers
run_len-le number [] = omega arith
run_len-le number (n ∷ numbers) = by (eqb n number) (run_len-le (number + 1) numbers)
  where
    by : (b : Bool) → run_len (number + 1) numbers ≤ length numbers → cond b (suc (run_len (number + 1) numbers)) 0 ≤ length (n ∷ numbers)
    by true rest = omega (arith, rest)
    by false rest = omega arith

pub drop_held : (count : ℕ) (numbers : List ℕ) (edits : List (List Change)) → length numbers ≡ length edits → held_by (drop count numbers) (drop count edits) ≡ drop count (held_by numbers edits)
drop_held zero numbers edits sizes = refl
drop_held (suc count) [] edits sizes = refl
drop_held (suc count) (n ∷ numbers) [] sizes = absurd (omega (arith, sizes))
drop_held (suc count) (n ∷ numbers) (edit ∷ edits) sizes = drop_held count numbers edits (omega (arith, sizes))

pub length-held : (numbers : List ℕ) (edits : List (List Change)) → length numbers ≡ length edits → length (held_by numbers edits) ≡ length numbers
length-held [] edits sizes = refl
length-held (n ∷ numbers) [] sizes = absurd (omega (arith, sizes))
length-held (n ∷ numbers) (edit ∷ edits) sizes = omega (arith, length-held numbers edits (omega (arith, sizes)))

-- ---- one more

pub all_put : (P : Held → Type 0) (held : Held) (waiting : List Held) → P held → AllByRecursion P waiting → AllByRecursion P (put held waiting)
all_put P held [] one all = (one, tt)
all_put P held (other ∷ others) one all = by (nat_lt held.number other.number) (all_put P held others one all.1)
  where
    by : (b : Bool) → AllByRecursion P (put held others) → AllByRecursion P (cond b (held ∷ other ∷ others) (other ∷ put held others))
    by true rest = (one, all)
    by false rest = (all.0, rest)

pub rises_put : (low : ℕ) (held : Held) (waiting : List Held) → low < held.number → waits held.number waiting ≡ false → Rises low waiting → Rises low (put held waiting)
rises_put low held [] above none rises = (above, tt)
rises_put low held (other ∷ others) above none rises =
    let parts = or_parts (eqb other.number held.number) (waits held.number others) none in
    by (nat_lt held.number other.number) refl parts.0 (λ over. rises_put other.number held others over parts.1 rises.1)
  where
    by : (b : Bool) → nat_lt held.number other.number ≡ b → eqb other.number held.number ≡ false → (other.number < held.number → Rises other.number (put held others)) → Rises low (cond b (held ∷ other ∷ others) (other ∷ put held others))
    by true e differ rest = (above, (ltb-true held.number other.number e, rises.1))
    by false e differ rest =
        let apart = eqb-false other.number held.number differ in
        let below = ltb-false held.number other.number e in
        (rises.0, rest (omega (arith, apart, below)))

pub put_first : (low : ℕ) (held : Held) (waiting : List Held) → held.number ≤ low → Rises low waiting → put held waiting ≡ held ∷ waiting
put_first low held [] below rises = refl
put_first low held (other ∷ others) below rises =
    ap (λ (b : Bool). cond b (held ∷ other ∷ others) (other ∷ put held others)) (lt-ltb held.number other.number (omega (arith, rises.0)))

-- ---- what stands in front

pub all_drop : {X : Type 0} (P : X → Type 0) (count : ℕ) (xs : List X) → AllByRecursion P xs → AllByRecursion P (drop count xs)
all_drop P zero xs all = all
all_drop P (suc count) [] all = tt
all_drop P (suc count) (x ∷ xs) all = all_drop P count xs all.1

pub rises_lower : (low high : ℕ) (waiting : List Held) → low ≤ high → Rises high waiting → Rises low waiting
rises_lower low high [] le rises = tt
rises_lower low high (held ∷ others) le rises = (omega (arith, rises.0), rises.1)

-- behind some of a run the numbers are above those of the run
pub rises_run : (low : ℕ) (waiting : List Held) (count : ℕ) → Rises low waiting → count ≤ length (run_from (low + 1) waiting) → Rises (low + count) (drop count waiting)
rises_run low waiting zero rises within = rises_lower (low + 0) low waiting (omega arith) rises
rises_run low [] (suc count) rises within = tt
rises_run low (held ∷ others) (suc count) rises within = by (eqb held.number (low + 1)) refl within (rises_run (low + 1) others count)
  where
    by : (b : Bool) → eqb held.number (low + 1) ≡ b → suc count ≤ length (cond b (held.edit ∷ run_from ((low + 1) + 1) others) [])
        → (Rises (low + 1) others → count ≤ length (run_from ((low + 1) + 1) others) → Rises ((low + 1) + count) (drop count others)) → Rises (low + suc count) (drop count others)
    by true e some more =
        let same : held.number ≡ low + 1 = eqb-true held.number (low + 1) e in
        let rest : Rises (low + 1) others = subst (λ (n : ℕ). Rises n others) same rises.1 in
        let one : (low + 1) + count ≡ low + suc count = omega arith in
        subst (λ (n : ℕ). Rises n (drop count others)) one (more rest (omega (arith, some)))
    by false e some more = absurd (omega (arith, some))

-- behind all of it the next number is missing
pub rises_gap : (low : ℕ) (waiting : List Held) → Rises low waiting → Rises ((low + 1) + length (run_from (low + 1) waiting)) (drop (length (run_from (low + 1) waiting)) waiting)
rises_gap low [] rises = tt
rises_gap low (held ∷ others) rises = by (eqb held.number (low + 1)) refl (rises_gap (low + 1) others)
  where
    by : (b : Bool) → eqb held.number (low + 1) ≡ b
        → (Rises (low + 1) others → Rises (((low + 1) + 1) + length (run_from ((low + 1) + 1) others)) (drop (length (run_from ((low + 1) + 1) others)) others))
        → Rises ((low + 1) + length (cond b (held.edit ∷ run_from ((low + 1) + 1) others) [])) (drop (length (cond b (held.edit ∷ run_from ((low + 1) + 1) others) [])) (held ∷ others))
    by true e more =
        let same : held.number ≡ low + 1 = eqb-true held.number (low + 1) e in
        let rest : Rises (low + 1) others = subst (λ (n : ℕ). Rises n others) same rises.1 in
        let two : ((low + 1) + 1) + length (run_from ((low + 1) + 1) others) ≡ (low + 1) + suc (length (run_from ((low + 1) + 1) others)) = omega arith in
        subst (λ (n : ℕ). Rises n (drop (length (run_from ((low + 1) + 1) others)) others)) two (more rest)
    by false e more =
        let apart = eqb-false held.number (low + 1) e in
        (omega (arith, apart, rises.0), rises.1)

-- a run is no longer than what waits
pub run_shorter : (number : ℕ) (waiting : List Held) → length (run_from number waiting) ≤ length waiting
run_shorter number [] = omega arith
run_shorter number (held ∷ others) = by (eqb held.number number) (run_shorter (number + 1) others)
  where
    by : (b : Bool) → length (run_from (number + 1) others) ≤ length others → length (cond b (held.edit ∷ run_from (number + 1) others) []) ≤ length (held ∷ others)
    by true rest = omega (arith, rest)
    by false rest = omega arith

-- a run ends at the greatest number of a version
pub run_few : (number : ℕ) (waiting : List Held) → number ≤ most_versions + 1 → AllByRecursion (λ (held : Held). held.number ≤ most_versions) waiting → number + length (run_from number waiting) ≤ most_versions + 1
run_few number [] few all = omega (arith, few)
run_few number (held ∷ others) few all = by (eqb held.number number) refl (λ next. run_few (number + 1) others next all.1)
  where
    by : (b : Bool) → eqb held.number number ≡ b → (number + 1 ≤ most_versions + 1 → (number + 1) + length (run_from (number + 1) others) ≤ most_versions + 1) → number + length (cond b (held.edit ∷ run_from (number + 1) others) []) ≤ most_versions + 1
    by true e more =
        let same = eqb-true held.number number e in
        let rest = more (omega (arith, same, all.0)) in
        omega (arith, rest)
    by false e more = omega (arith, few)

-- all numbers of a run wait
pub run_waits : (number : ℕ) (waiting : List Held) (other : ℕ) → number ≤ other → other < number + length (run_from number waiting) → waits other waiting ≡ true
run_waits number [] other from until = absurd (omega (arith, from, until))
run_waits number (held ∷ others) other from until = by (eqb held.number number) refl until (eqb held.number other) refl (run_waits (number + 1) others other)
  where
    by : (b : Bool) → eqb held.number number ≡ b → other < number + length (cond b (held.edit ∷ run_from (number + 1) others) []) → (c : Bool) → eqb held.number other ≡ c
        → (number + 1 ≤ other → other < (number + 1) + length (run_from (number + 1) others) → waits other others ≡ true) → (c || waits other others) ≡ true
    by false e before c f more = absurd (omega (arith, from, before))
    by true e before true f more = refl
    by true e before false f more =
        let same = eqb-true held.number number e in
        let apart = eqb-false held.number other f in
        more (omega (arith, same, apart, from)) (omega (arith, before))

-- no number at or below a bound waits above it
pub none_below : (low : ℕ) (waiting : List Held) (number : ℕ) → Rises low waiting → number ≤ low → waits number waiting ≡ false
none_below low [] number rises below = refl
none_below low (held ∷ others) number rises below = by (eqb held.number number) refl (none_below held.number others number rises.1 (omega (arith, rises.0, below)))
  where
    by : (b : Bool) → eqb held.number number ≡ b → waits number others ≡ false → (b || waits number others) ≡ false
    by true e rest = absurd (omega (arith, eqb-true held.number number e, rises.0, below))
    by false e rest = rest

-- the number behind a run does not wait
pub gap_missing : (low : ℕ) (waiting : List Held) → Rises low waiting → waits ((low + 1) + length (run_from (low + 1) waiting)) waiting ≡ false
gap_missing low [] rises = refl
gap_missing low (held ∷ others) rises = by (eqb held.number (low + 1)) refl (gap_missing (low + 1) others)
  where
    missing : (number : ℕ) (c : Bool) → eqb held.number number ≡ c → held.number < number → waits number others ≡ false → (c || waits number others) ≡ false
    missing number true f above rest = absurd (omega (arith, eqb-true held.number number f, above))
    missing number false f above rest = rest

    by : (b : Bool) → eqb held.number (low + 1) ≡ b → (Rises (low + 1) others → waits (((low + 1) + 1) + length (run_from ((low + 1) + 1) others)) others ≡ false)
        → waits ((low + 1) + length (cond b (held.edit ∷ run_from ((low + 1) + 1) others) [])) (held ∷ others) ≡ false
    by true e more =
        let same : held.number ≡ low + 1 = eqb-true held.number (low + 1) e in
        let rest : Rises (low + 1) others = subst (λ (n : ℕ). Rises n others) same rises.1 in
        let two : ((low + 1) + 1) + length (run_from ((low + 1) + 1) others) ≡ (low + 1) + suc (length (run_from ((low + 1) + 1) others)) = omega arith in
        let behind : waits ((low + 1) + suc (length (run_from ((low + 1) + 1) others))) others ≡ false = subst (λ (n : ℕ). waits n others ≡ false) two (more rest) in
        missing ((low + 1) + suc (length (run_from ((low + 1) + 1) others))) (eqb held.number ((low + 1) + suc (length (run_from ((low + 1) + 1) others)))) refl (omega (arith, same)) behind
    by false e more =
        let apart = eqb-false held.number (low + 1) e in
        none_below (low + 1) (held ∷ others) ((low + 1) + 0) (omega (arith, apart, rises.0), rises.1) (omega arith)
