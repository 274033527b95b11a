-- Items that are passed over one after the other.
use Rattle.std.specs.Prelude.{◌≡◌, ℕ, Bool, true, false, List, ◌++◌, length}
use Rattle.live_rounds.specs.Requests.{requests}
use Rattle.live_rounds.specs.Scripts.{IsFirstRound}
use Rattle.live_rounds.specs.Stretches.{IsCounted, items_of}
use Rattle.live_rounds.specs.declared.stretch.Stretch.{Stretch}
use Rattle.script_read.specs.Said.{Said}
use Rattle.script_read.specs.declared.said_lines.FirstItem.{FirstItem}
use Rattle.script_read.specs.declared.said_lines.FirstItem.TheVariants as first

-- what an item is that is not built
abbrev pub is_end : FirstItem → Bool
is_end first.Sync = true
is_end _ = false

abbrev pub is_asked : FirstItem → Bool
is_asked (first.Request asked) = true
is_asked _ = false

-- a round is passed, of so many items and so many requests
pub record IsPassed (count asks : ℕ) (old new : List Said) : Type 0 where
  pub round : List Said
  pub first : IsFirstRound old round new
  pub count_is : count ≡ length round
  pub requests_are : asks ≡ length (requests round)

-- so many requests stand among the first so many items, behind which these are left
pub record IsBehindRequests (share : ℕ) (items left : List Said) (count : ℕ) : Type 0 where
  pub front : List Said
  pub parts : items ≡ front ++ left
  pub count_is : count ≡ length front
  pub share_is : length (requests front) ≡ share

-- items are cut behind so many requests
pub record IsCutBehind (share : ℕ) (items : List Said) (part left : Stretch) : Type 0 where
  pub parts : items ≡ items_of part ++ items_of left
  pub share_is : length (requests (items_of part)) ≡ share
  pub part_counted : IsCounted part
  pub left_counted : IsCounted left
