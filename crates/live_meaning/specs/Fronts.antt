-- What seats know, and which entries are legal.
use Rattle.std.specs.Prelude.{◌≡◌, ◌≤◌, ◌-◌, ◌==◌, ℕ, List, [], ◌∷◌, ◌++◌, length, max, take, if◌then◌else◌}
use Rattle.live_meaning.specs.Events.{cut, seats}
use Rattle.live_meaning.specs.declared.events.Event.{Event}
use Rattle.live_meaning.specs.declared.events.Event.TheVariants.{Note, Learn, Enter, Seat}

-- the events before the note of this number; all where it was not given
abbrev pub before_note : ℕ → List Event → List Event
before_note note [] = []
before_note note (Note ∷ events) = if note == 0 then [] else (Note ∷ before_note (note - 1) events)
before_note note (event ∷ events) = event ∷ before_note note events

-- the version that an event behind others shows to a seat: the published one where it is given the seat or enters, and where
-- it learns of a note the one published at that note
abbrev pub shown : List Event → Event → ℕ → ℕ
shown before Seat seat = if seats before == seat then cut before else 0
shown before (Enter by) seat = if by == seat then cut before else 0
shown before (Learn by note) seat = if by == seat then cut (before_note note before) else 0
shown before _ seat = 0

-- the greatest version that events behind others show to a seat
abbrev pub front_behind : List Event → List Event → ℕ → ℕ
front_behind before [] seat = 0
front_behind before (event ∷ events) seat = max (shown before event seat) (front_behind (before ++ event ∷ []) events seat)

-- the front of a seat: the greatest version that it was shown
unfoldable pub front : List Event → ℕ → ℕ
front events seat = front_behind [] events seat

-- a seat may enter this version behind these events: it was published at some place, it is no older than what the seat was
-- shown, and it is not above what is published
pub record IsLegal (events : List Event) (seat version : ℕ) : Type 0 where
  pub place : ℕ
  pub within : place ≤ length events
  pub published : version ≡ cut (take place events)
  pub shown_before : front events seat ≤ version
  pub not_above : version ≤ cut events
