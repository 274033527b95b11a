-- The laws of entries.
use Rattle.std.proofs.Common.{◌≡◌, ℕ, ◌-◌, ◌<◌, ◌≤◌, Bool, true, false, cond, List, [], ◌∷◌, ◌++◌, append_assoc, length, take, take_all, Result, Ok, Err, nat_lt, refl, sym, ap, subst, ◌∙◌, arith, ltb-true}
use Rattle.std.specs.Prelude.{◌==◌}
use Rattle.live_meaning.proofs.CutLemmas.{IsWhole, cut_later, cut_rises, cut_whole}
use Rattle.live_meaning.proofs.EventLemmas.{notes_later}
use Rattle.live_meaning.specs.Events.{cut, notes, seats}
use Rattle.live_meaning.specs.Fronts.{IsLegal, before_note, front, front_behind, shown}
use Rattle.live_meaning.specs.Laws.{IsAnswered}
use Rattle.live_meaning.specs.Replies.{reply_of}
use Rattle.live_meaning.specs.declared.events.Event.{Event}
use Rattle.live_meaning.specs.declared.events.Event.TheVariants.{Edit, Publish, Note, Learn, Enter, Seat}
use Rattle.live_meaning.specs.declared.events.Reply.{Reply}
use Rattle.live_meaning.specs.declared.events.Reply.TheVariants.{Done, Noted, Entered}
use Rattle.live_meaning.specs.declared.events.StepStop.{StepStop}
use Rattle.live_meaning.specs.declared.events.StepStop.TheVariants.{NoSeat, NoNote}

-- ---- what answers say

-- a seat enters what is published
pub entered_cut : (events : List Event) (seat version : ℕ) → reply_of events (Enter seat) ≡ Ok (Entered version) → version ≡ cut events
entered_cut events seat version is = by (nat_lt seat (seats events)) is
  where
    by : (given : Bool) → ◌≡◌ {A = Result Reply StepStop} (cond given (Ok (Entered (cut events))) (Err NoSeat)) (Ok (Entered version)) → version ≡ cut events
    by true e = cc
    by false e = absurd cc

-- a note that was learned was given
learned_given : (events : List Event) (seat note : ℕ) → reply_of events (Learn seat note) ≡ Ok Done → nat_lt note (notes events) ≡ true
learned_given events seat note is = by (nat_lt seat (seats events)) (nat_lt note (notes events)) is
  where
    by : (given noted : Bool) → ◌≡◌ {A = Result Reply StepStop} (cond given (cond noted (Ok Done) (Err NoNote)) (Err NoSeat)) (Ok Done) → noted ≡ true
    by true true e = refl
    by true false e = absurd cc
    by false noted e = absurd cc

-- the number of a note
noted_number : (events : List Event) (note : ℕ) → reply_of events Note ≡ Ok (Noted note) → notes events ≡ note
noted_number events note is = cc

-- ---- what a seat was shown

-- the events before a note are a front
record IsFront (front events : List Event) : Type 0 where
  rest : List Event
  parts : events ≡ front ++ rest

front_next : (event : Event) (front events : List Event) → IsFront front events → IsFront (event ∷ front) (event ∷ events)
front_next event front events is = record { rest = is.rest; parts = ap (λ (l : List Event). event ∷ l) is.parts }

note_front : (note : ℕ) (events : List Event) → IsFront (before_note note events) events
note_front note [] = record { rest = []; parts = refl }
note_front note (Note ∷ events) = by (note == 0) (note_front (note - 1) events)
  where
    by : (first : Bool) → IsFront (before_note (note - 1) events) events → IsFront (cond first [] (Note ∷ before_note (note - 1) events)) (Note ∷ events)
    by true is = record { rest = Note ∷ events; parts = refl }
    by false is = front_next Note (before_note (note - 1) events) events is
note_front note (Edit edit ∷ events) = front_next (Edit edit) (before_note note events) events (note_front note events)
note_front note (Publish ∷ events) = front_next Publish (before_note note events) events (note_front note events)
note_front note (Learn seat other ∷ events) = front_next (Learn seat other) (before_note note events) events (note_front note events)
note_front note (Enter seat ∷ events) = front_next (Enter seat) (before_note note events) events (note_front note events)
note_front note (Seat ∷ events) = front_next Seat (before_note note events) events (note_front note events)

cut_at_note : (note : ℕ) (events : List Event) → cut (before_note note events) ≤ cut events
cut_at_note note events =
    let is = note_front note events in
    omega (arith, cut_rises (before_note note events) is.rest, ap cut is.parts)

if_own : (own : Bool) (version most : ℕ) → version ≤ most → cond own version 0 ≤ most
if_own true version most few = few
if_own false version most few = omega arith

-- no event shows a seat more than what is published
shown_cut : (before : List Event) (event : Event) (seat : ℕ) → shown before event seat ≤ cut before
shown_cut before Seat seat = if_own (seats before == seat) (cut before) (cut before) (omega arith)
shown_cut before (Enter by) seat = if_own (by == seat) (cut before) (cut before) (omega arith)
shown_cut before (Learn by note) seat = if_own (by == seat) (cut (before_note note before)) (cut before) (cut_at_note note before)
shown_cut before (Edit edit) seat = omega arith
shown_cut before Publish seat = omega arith
shown_cut before Note seat = omega arith

front_cut : (before events : List Event) (seat : ℕ) → front_behind before events seat ≤ cut (before ++ events)
front_cut before [] seat = omega arith
front_cut before (event ∷ events) seat =
    let here : shown before event seat ≤ cut (before ++ event ∷ events) = omega (arith, shown_cut before event seat, cut_rises before (event ∷ events)) in
    let later : front_behind (before ++ event ∷ []) events seat ≤ cut (before ++ event ∷ events) = omega (arith, front_cut (before ++ event ∷ []) events seat, ap cut (append_assoc before (event ∷ []) events)) in
    omega (arith, here, later)

front_published : (events : List Event) (seat : ℕ) → front events seat ≤ cut events
unfolding front
front_published events seat = front_cut [] events seat

-- ---- the laws

pub legal_entry : (all : List Event) (at seat version : ℕ) → IsAnswered all at (Enter seat) (Entered version) → IsLegal (take at all) seat version
legal_entry all at seat version is =
    let published : version ≡ cut (take at all) = entered_cut (take at all) seat version is.answer in
    record {
      place = length (take at all);
      within = omega arith;
      published = published ∙ ap cut (sym (take_all (length (take at all)) (take at all) (omega arith)));
      shown_before = omega (arith, published, front_published (take at all) seat);
      not_above = omega (arith, published);
    }

pub rising_entries : (all : List Event) (first second seat older newer : ℕ) → first ≤ second
    → IsAnswered all first (Enter seat) (Entered older) → IsAnswered all second (Enter seat) (Entered newer) → older ≤ newer
rising_entries all first second seat older newer later one other =
    omega (arith, entered_cut (take first all) seat older one.answer, entered_cut (take second all) seat newer other.answer, cut_later first second all later)

pub following_entries : (all : List Event) (noted learned entered seat note version : ℕ) → learned < entered
    → IsAnswered all noted Note (Noted note) → IsAnswered all learned (Learn seat note) Done → IsAnswered all entered (Enter seat) (Entered version) → cut (take noted all) ≤ version
following_entries all noted learned entered seat note version later one two three =
    let number : notes (take noted all) ≡ note = noted_number (take noted all) note one.answer in
    let given : note < notes (take learned all) = ltb-true note (notes (take learned all)) (learned_given (take learned all) seat note two.answer) in
    let before : noted ≤ entered = grind (arith, number, given, later, notes_later learned noted all) in
    omega (arith, cut_later noted entered all before, entered_cut (take entered all) seat version three.answer)

pub whole_entry : (all : List Event) (at seat version : ℕ) → IsAnswered all at (Enter seat) (Entered version) → IsWhole (take at all) version
whole_entry all at seat version is = subst (IsWhole (take at all)) (sym (entered_cut (take at all) seat version is.answer)) (cut_whole (take at all))
