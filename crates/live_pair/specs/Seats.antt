-- What contracts see of a seat, of its way in, and of what an entry leaves.
use Rattle.std.specs.Prelude.{◌≡◌, ℕ, ◌+◌, List, [], ◌∷◌, length, min}
use mathlib.Core.List.{IsPrefix}
use Rattle.live_pair.specs.Story.{edits_in}
use Rattle.outside.specs.Faults.{most_faults}
use Rattle.policy_table.specs.declared.change.Change.{Change}

-- a way into the pair: the publishes that it knows of, and how often it was refused
pub record Way : Type 0 where
  pub front : List (List (List Change))
  pub refused : ℕ

-- a seat: the publishes that it knows of, how often it entered and was refused, and the version of its last entry
pub record SeatSeen : Type 0 where
  pub front : List (List (List Change))
  pub entries : ℕ
  pub refused : ℕ
  pub last : ℕ

-- the version of a published history: how many edits it has
abbrev pub version_of : List (List (List Change)) → ℕ
version_of front = length (edits_in front)

-- how many edits publishes have before the last of them
abbrev pub before_last : List (List (List Change)) → ℕ
before_last [] = 0
before_last (publish ∷ []) = 0
before_last (publish ∷ next ∷ publishes) = length publish + before_last (next ∷ publishes)

-- the version at which the log of an entered policy starts: it has the edits of the last publish, and none of those of the
-- policy that was opened
abbrev pub start_of : List (List (List Change)) → ℕ
start_of [] = 0
start_of (opened ∷ publishes) = length opened + before_last publishes

-- a count with one more; it stands still at its greatest number
abbrev pub raised : ℕ → ℕ
raised count = min (count + 1) most_faults

-- a seat that was just made knows of these publishes and was never inside
pub record IsNew (front : List (List (List Change))) (seat : SeatSeen) : Type 0 where
  pub front_is : seat.front ≡ front
  pub entries_are : seat.entries ≡ 0
  pub refused_is : seat.refused ≡ 0
  pub last_is : seat.last ≡ 0

-- a seat entered: its front before is a prefix of its front now, publish by publish
pub record IsEntered (before now : SeatSeen) : Type 0 where
  pub begun : IsPrefix before.front now.front
  pub entries_are : now.entries ≡ raised before.entries
  pub refused_is : now.refused ≡ before.refused
  pub last_is : now.last ≡ version_of now.front

-- an entry was refused and counted, and nothing else changed
pub record IsShut (before now : SeatSeen) : Type 0 where
  pub front_is : now.front ≡ before.front
  pub entries_are : now.entries ≡ before.entries
  pub last_is : now.last ≡ before.last
  pub refused_is : now.refused ≡ raised before.refused
