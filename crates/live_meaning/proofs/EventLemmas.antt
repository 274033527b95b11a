-- Counts of events in two lists, one behind the other.
use Rattle.std.proofs.Common.{◌≡◌, ℕ, ◌+◌, ◌-◌, ◌≤◌, List, [], ◌∷◌, ◌++◌, length, length-append, take, drop, refl, sym, ap, ◌∙◌, arith}
use Rattle.std.proofs.lemmas.List.{take-append-drop}
use Rattle.std.proofs.lemmas.List.Sums.{count_by-le-length, sum_by-append}
use Rattle.std.proofs.Math.Seq.{take-add}
use Rattle.policy_table.specs.declared.change.Change.{Change}
use Rattle.live_meaning.specs.Events.{is_note, is_seat, made, notes, seats, versions}
use Rattle.live_meaning.specs.declared.events.Event.{Event}
use Rattle.live_meaning.specs.declared.events.Event.TheVariants.{Edit, Publish, Note, Learn, Enter, Seat}

made_both : (front back : List Event) → made (front ++ back) ≡ made front ++ made back
made_both [] back = refl
made_both (Edit edit ∷ front) back = ap (λ (l : List (List Change)). edit ∷ l) (made_both front back)
made_both (Publish ∷ front) back = made_both front back
made_both (Note ∷ front) back = made_both front back
made_both (Learn seat note ∷ front) back = made_both front back
made_both (Enter seat ∷ front) back = made_both front back
made_both (Seat ∷ front) back = made_both front back

pub versions_both : (front back : List Event) → versions (front ++ back) ≡ versions front + versions back
unfolding versions
versions_both front back = ap (λ (l : List (List Change)). length l) (made_both front back) ∙ length-append (made front) (made back)

pub notes_both : (front back : List Event) → notes (front ++ back) ≡ notes front + notes back
unfolding notes
notes_both front back = sum_by-append _ front back

pub seats_both : (front back : List Event) → seats (front ++ back) ≡ seats front + seats back
unfolding seats
seats_both front back = sum_by-append _ front back

-- ---- of a front, and of few events

pub versions_front : (n : ℕ) (events : List Event) → versions (take n events) ≤ versions events
versions_front n events = omega (arith, versions_both (take n events) (drop n events), ap versions (take-append-drop n events))

made_few : (events : List Event) → length (made events) ≤ length events
made_few [] = omega arith
made_few (Edit edit ∷ events) = omega (arith, made_few events)
made_few (Publish ∷ events) = omega (arith, made_few events)
made_few (Note ∷ events) = omega (arith, made_few events)
made_few (Learn seat note ∷ events) = omega (arith, made_few events)
made_few (Enter seat ∷ events) = omega (arith, made_few events)
made_few (Seat ∷ events) = omega (arith, made_few events)

pub versions_few : (events : List Event) → versions events ≤ length events
unfolding versions
versions_few events = made_few events

pub notes_few : (events : List Event) → notes events ≤ length events
unfolding notes
notes_few events = count_by-le-length is_note events

pub seats_few : (events : List Event) → seats events ≤ length events
unfolding seats
seats_few events = count_by-le-length is_seat events

-- ---- of two fronts

pub notes_later : (i j : ℕ) (events : List Event) → i ≤ j → notes (take i events) ≤ notes (take j events)
notes_later i j events later =
    let whole : i + (j - i) ≡ j = omega (arith, later) in
    let parts : take j events ≡ take i events ++ take (j - i) (drop i events) = ap (λ (m : ℕ). take m events) (sym whole) ∙ take-add i (j - i) events in
    omega (arith, notes_both (take i events) (take (j - i) (drop i events)), ap notes parts)
