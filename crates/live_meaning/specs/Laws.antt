-- What laws of lists of events speak of.
use Rattle.std.specs.Prelude.{◌≡◌, ℕ, List, Some, Ok, slice_get, take}
use Rattle.live_meaning.specs.Events.{versions}
use Rattle.live_meaning.specs.Replies.{reply_of}
use Rattle.live_meaning.specs.declared.events.Event.{Event}
use Rattle.live_meaning.specs.declared.events.Event.TheVariants.{Publish}
use Rattle.live_meaning.specs.declared.events.Reply.{Reply}

-- the event stands at this place of the list, and is answered this
pub record IsAnswered (events : List Event) (at : ℕ) (event : Event) (reply : Reply) : Type 0 where
  pub stands : slice_get events at ≡ Some event
  pub answer : reply_of (take at events) event ≡ Ok reply

-- a publish among the events has just the edits of this version
pub record IsPublished (events : List Event) (version : ℕ) : Type 0 where
  pub at : ℕ
  pub stands : slice_get events at ≡ Some Publish
  pub edits : version ≡ versions (take at events)
