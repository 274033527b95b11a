-- The numbers that a world keeps beside its events.
use Rattle.std.specs.Prelude.{ℕ, ◌+◌, List, Result, Ok, Err, nat_lt, if◌then◌else◌}
use Rattle.live_meaning.specs.Events.{cut, notes, seats, versions}
use Rattle.live_meaning.specs.declared.counts.Counts.{Counts}
use Rattle.live_meaning.specs.declared.events.Event.{Event}
use Rattle.live_meaning.specs.declared.events.Event.TheVariants.{Edit, Publish, Note, Learn, Enter, Seat}
use Rattle.live_meaning.specs.declared.events.Reply.{Reply}
use Rattle.live_meaning.specs.declared.events.Reply.TheVariants.{Done, Published, Noted, Entered, Seated}
use Rattle.live_meaning.specs.declared.events.StepStop.{StepStop}
use Rattle.live_meaning.specs.declared.events.StepStop.TheVariants.{NoSeat, NoNote}

-- those of a list of events
unfoldable pub counts_of : List Event → Counts
counts_of events = record { versions = versions events; notes = notes events; seats = seats events; published = cut events }

-- those behind one event more
abbrev pub counted : Counts → Event → Counts
counted counts (Edit edit) = record counts { versions = counts.versions + 1 }
counted counts Publish = record counts { published = counts.versions }
counted counts Note = record counts { notes = counts.notes + 1 }
counted counts (Learn seat note) = counts
counted counts (Enter seat) = counts
counted counts Seat = record counts { seats = counts.seats + 1 }

-- what a seat that learns of a note is answered
abbrev pub learned : Counts → ℕ → ℕ → Result Reply StepStop
learned counts seat note = if nat_lt seat counts.seats then (if nat_lt note counts.notes then Ok Done else Err NoNote) else Err NoSeat

-- what a seat that enters is answered
abbrev pub entered : Counts → ℕ → Result Reply StepStop
entered counts seat = if nat_lt seat counts.seats then Ok (Entered counts.published) else Err NoSeat

-- what an event is answered by them
abbrev pub answer : Counts → Event → Result Reply StepStop
answer counts (Edit edit) = Ok Done
answer counts Publish = Ok (Published counts.versions)
answer counts Note = Ok (Noted counts.notes)
answer counts (Learn seat note) = learned counts seat note
answer counts (Enter seat) = entered counts seat
answer counts Seat = Ok (Seated counts.seats)
