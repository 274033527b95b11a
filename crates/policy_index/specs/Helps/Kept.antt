-- What an index keeps beside: the slots by their hashes, the place of each slot there, and how many rows have a front of each
-- length.
use Rattle.std.specs.Prelude.{◌≡◌, ℕ, ◌<◌, ◌^◌, ◌==◌, Bool, false, nat_eq, List, length, get_or, slice_get, Option, Some, None, if◌then◌else◌}
use Rattle.std.specs.List.{count_by}
use Rattle.std.specs.Option.{option_map_or}
use Rattle.policy_index.specs.Lists.{Lists, slots_at}
use Rattle.policy_index.specs.declared.mark.Mark.{Mark}

-- a mark has the hash
abbrev pub has_hash : ℕ → Mark → Bool
has_hash hash mark = mark.hash == hash

-- a mark has a front of this length
abbrev pub is_front : ℕ → Option ℕ → Bool
is_front size None = false
is_front size (Some own) = own == size

abbrev pub has_front : ℕ → Mark → Bool
has_front size mark = is_front size mark.front

-- one where it holds
abbrev pub one_if : Bool → ℕ
one_if b = if b then 1 else 0

-- the mark in a slot has the hash
abbrev pub has_hash_at : ℕ → List Mark → ℕ → Bool
has_hash_at hash marks slot = option_map_or (has_hash hash) (slice_get marks slot) false

-- each hash has the slots of the marks with it, each once, and no others
abbrev pub AreListed : List Mark → Lists → Type 0
AreListed marks lists = (hash slot : ℕ) → count_by (nat_eq slot) (slots_at lists hash) ≡ one_if (has_hash_at hash marks slot)

-- as many marks have a front of each length as are counted
pub record AreCounted (marks : List Mark) (counts : List ℕ) : Type 0 where
  pub sizes : length counts ≡ 256
  pub each : (size : ℕ) → get_or counts size 0 ≡ count_by (has_front size) marks

-- a slot stands at a place in the list of a hash
abbrev pub IsAt : Lists → ℕ → ℕ → ℕ → Type 0
IsAt lists hash place slot = slice_get (slots_at lists hash) place ≡ Some slot

-- each slot stands at its place in the list of its hash
pub record ArePlaced (marks : List Mark) (lists : Lists) (places : List ℕ) : Type 0 where
  pub sizes : length places ≡ length marks
  pub each : (slot : ℕ) (d : Mark) → slot < length marks → IsAt lists (get_or marks slot d).hash (get_or places slot 0) slot

-- what an index keeps
pub record IsIndex (marks : List Mark) (lists : Lists) (counts places : List ℕ) : Type 0 where
  pub few : length marks < 2 ^ 32
  pub listed : AreListed marks lists
  pub counted : AreCounted marks counts
  pub placed : ArePlaced marks lists places
