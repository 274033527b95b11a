-- Seats that learn of a front.
use Rattle.std.specs.Prelude.{◌≡◌, ◌⊎◌, List}
use mathlib.Core.List.{IsPrefix}
use Rattle.live_pair.specs.Seats.{SeatSeen}
use Rattle.policy_table.specs.declared.change.Change.{Change}

-- a seat's front is the longer of its own and this one, and nothing else of it changed
pub record HasLearned (front : List (List (List Change))) (old new : SeatSeen) : Type 0 where
  pub one : (new.front ≡ old.front) ⊎ (new.front ≡ front)
  pub this : IsPrefix old.front new.front
  pub that : IsPrefix front new.front
  pub entries_are : new.entries ≡ old.entries
  pub refused_is : new.refused ≡ old.refused
  pub last_is : new.last ≡ old.last
