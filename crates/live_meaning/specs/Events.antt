-- What a list of events comes to: its edits, its seats and notes, and what is published behind it.
use Rattle.std.specs.Prelude.{ℕ, Bool, true, false, List, [], ◌∷◌, count_by, length}
use Rattle.std.specs.List.{before_last}
use Rattle.policy_table.specs.declared.change.Change.{Change}
use Rattle.live_meaning.specs.declared.events.Event.{Event}
use Rattle.live_meaning.specs.declared.events.Event.TheVariants.{Edit, Publish, Note, Seat}

abbrev pub is_publish : Event → Bool
is_publish Publish = true
is_publish _ = false

abbrev pub is_note : Event → Bool
is_note Note = true
is_note _ = false

abbrev pub is_seat : Event → Bool
is_seat Seat = true
is_seat _ = false

-- the edits, in their order
abbrev pub made : List Event → List (List Change)
made [] = []
made (Edit edit ∷ events) = edit ∷ made events
made (_ ∷ events) = made events

-- the number of the version that has all edits
unfoldable pub versions : List Event → ℕ
versions events = length (made events)

-- how many notes were given
unfoldable pub notes : List Event → ℕ
notes events = count_by is_note events

-- how many seats were given
unfoldable pub seats : List Event → ℕ
seats events = count_by is_seat events

-- the version that is published: how many edits stand before the last publish, and 0 where there is none
unfoldable pub cut : List Event → ℕ
cut events = versions (before_last is_publish events)
