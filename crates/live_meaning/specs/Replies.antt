-- What events are answered.
use Rattle.std.specs.Prelude.{◌≡◌, ◌≢◌, List, [], ◌∷◌, ◌++◌, Result, Ok, Err, IsOk, nat_lt, if◌then◌else◌}
use Rattle.live_meaning.specs.Events.{cut, notes, seats, versions}
use Rattle.live_meaning.specs.declared.events.Event.{Event}
use Rattle.live_meaning.specs.declared.events.Event.TheVariants.{Edit, Publish, Note, Learn, Enter, Seat}
use Rattle.live_meaning.specs.declared.events.Reply.{Reply}
use Rattle.live_meaning.specs.declared.events.Reply.TheVariants.{Done, Published, Noted, Entered, Seated}
use Rattle.live_meaning.specs.declared.events.StepStop.{StepStop}
use Rattle.live_meaning.specs.declared.events.StepStop.TheVariants.{NoSeat, NoNote, NoMemory}

-- what an event behind these is answered; the seat is looked at before the note
abbrev pub reply_of : List Event → Event → Result Reply StepStop
reply_of events (Edit edit) = Ok Done
reply_of events Publish = Ok (Published (versions events))
reply_of events Note = Ok (Noted (notes events))
reply_of events (Learn seat note) = if nat_lt seat (seats events) then (if nat_lt note (notes events) then Ok Done else Err NoNote) else Err NoSeat
reply_of events (Enter seat) = if nat_lt seat (seats events) then Ok (Entered (cut events)) else Err NoSeat
reply_of events Seat = Ok (Seated (seats events))

-- a reply before others, or the first refusal
abbrev pub before_others : Result Reply StepStop → Result (List Reply) StepStop → Result (List Reply) StepStop
before_others (Err stop) others = Err stop
before_others (Ok reply) (Err stop) = Err stop
before_others (Ok reply) (Ok replies) = Ok (reply ∷ replies)

-- what events behind others are answered, one by one, or the first refusal
abbrev pub replies_of : List Event → List Event → Result (List Reply) StepStop
replies_of before [] = Ok []
replies_of before (event ∷ events) = before_others (reply_of before event) (replies_of (before ++ event ∷ []) events)

-- the first of the events is refused
abbrev pub IsRefused : List Event → List Event → StepStop → Type 0
IsRefused before [] stop = ⊥
IsRefused before (event ∷ events) stop = reply_of before event ≡ Err stop

-- a run of events stopped: those of a front were done, and the event behind it is refused, unless memory ran out
pub record IsStopped (before events after : List Event) (stop : StepStop) : Type 0 where
  pub front : List Event
  pub rest : List Event
  pub parts : events ≡ front ++ rest
  pub done : after ≡ before ++ front
  pub answered : IsOk (replies_of before front)
  pub refused : stop ≢ NoMemory → IsRefused after rest stop
