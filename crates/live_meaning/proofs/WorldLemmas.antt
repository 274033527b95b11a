-- The numbers of a world, behind one event more.
use Rattle.std.proofs.Common.{◌≡◌, ℕ, ◌+◌, cond, List, [], ◌∷◌, ◌++◌, ◌≤◌, length, refl, sym, ap, ◌∙◌, arith}
use Rattle.live_meaning.proofs.CutLemmas.{cut_kept, cut_published}
use Rattle.live_meaning.proofs.EventLemmas.{notes_both, notes_few, seats_both, seats_few, versions_both, versions_few}
use Rattle.live_meaning.specs.Events.{cut, is_note, is_seat, made, notes, seats, versions}
use Rattle.live_meaning.specs.Helps.Counted.{answer, counted, counts_of}
use Rattle.live_meaning.specs.Replies.{reply_of}
use Rattle.live_meaning.specs.declared.counts.Counts.{Counts}
use Rattle.live_meaning.specs.declared.events.Event.{Event}
use Rattle.live_meaning.specs.declared.events.Event.TheVariants.{Edit, Publish, Note, Learn, Enter, Seat}

versions_one : (event : Event) → versions (event ∷ []) ≡ length (made (event ∷ []))
unfolding versions
versions_one event = refl

notes_one : (event : Event) → notes (event ∷ []) ≡ cond (is_note event) 1 0
unfolding notes
notes_one event = omega arith

seats_one : (event : Event) → seats (event ∷ []) ≡ cond (is_seat event) 1 0
unfolding seats
seats_one event = omega arith

counts_by : (events : List Event) (event : Event) (v n s p : ℕ)
    → versions events + length (made (event ∷ [])) ≡ v → notes events + cond (is_note event) 1 0 ≡ n → seats events + cond (is_seat event) 1 0 ≡ s → cut (events ++ event ∷ []) ≡ p
    → counts_of (events ++ event ∷ []) ≡ record { versions = v; notes = n; seats = s; published = p }
unfolding counts_of
counts_by events event v n s p one two three four =
    let first : versions (events ++ event ∷ []) ≡ v = omega (arith, versions_both events (event ∷ []), versions_one event, one) in
    let second : notes (events ++ event ∷ []) ≡ n = omega (arith, notes_both events (event ∷ []), notes_one event, two) in
    let third : seats (events ++ event ∷ []) ≡ s = omega (arith, seats_both events (event ∷ []), seats_one event, three) in
    cc

counted_more : (events : List Event) (event : Event) → counts_of (events ++ event ∷ []) ≡ counted (counts_of events) event
unfolding counts_of
counted_more events (Edit edit) = counts_by events (Edit edit) _ _ _ _ refl (omega arith) (omega arith) (cut_kept events (Edit edit) refl)
counted_more events Publish = counts_by events Publish _ _ _ _ (omega arith) (omega arith) (omega arith) (cut_published events)
counted_more events Note = counts_by events Note _ _ _ _ (omega arith) refl (omega arith) (cut_kept events Note refl)
counted_more events (Learn seat note) = counts_by events (Learn seat note) _ _ _ _ (omega arith) (omega arith) (omega arith) (cut_kept events (Learn seat note) refl)
counted_more events (Enter seat) = counts_by events (Enter seat) _ _ _ _ (omega arith) (omega arith) (omega arith) (cut_kept events (Enter seat) refl)
counted_more events Seat = counts_by events Seat _ _ _ _ (omega arith) (omega arith) refl (cut_kept events Seat refl)

-- ---- what they answer

answered_by : (events : List Event) (event : Event) → answer (counts_of events) event ≡ reply_of events event
unfolding counts_of
answered_by events (Edit edit) = refl
answered_by events Publish = refl
answered_by events Note = refl
answered_by events (Learn seat note) = refl
answered_by events (Enter seat) = refl
answered_by events Seat = refl

pub answered : (counts : Counts) (events : List Event) (event : Event) → counts ≡ counts_of events → answer counts event ≡ reply_of events event
answered counts events event is = ap (λ (c : Counts). answer c event) is ∙ answered_by events event

-- they are no more than there are events
pub counted_few : (counts : Counts) (events : List Event) → counts ≡ counts_of events → (counts.versions ≤ length events) × (counts.notes ≤ length events) × (counts.seats ≤ length events)
unfolding counts_of
counted_few counts events is =
    (omega (arith, ap (λ (c : Counts). c.versions) is, versions_few events), omega (arith, ap (λ (c : Counts). c.notes) is, notes_few events), omega (arith, ap (λ (c : Counts). c.seats) is, seats_few events))

pub counted_next : (counts after : Counts) (events all : List Event) (event : Event) → counts ≡ counts_of events → after ≡ counted counts event → all ≡ events ++ event ∷ [] → after ≡ counts_of all
counted_next counts after events all event is made more =
    made ∙ ap (λ (c : Counts). counted c event) is ∙ sym (counted_more events event) ∙ ap counts_of (sym more)

counted_start : counts_of [] ≡ record { versions = 0; notes = 0; seats = 0; published = 0 }
unfolding counts_of versions notes seats cut
counted_start = refl

pub counted_none : (events : List Event) → events ≡ [] → counts_of events ≡ record { versions = 0; notes = 0; seats = 0; published = 0 }
counted_none events none = ap counts_of none ∙ counted_start
