-- The slots of rows by a hash: a list for each hash, and the room of each.
use Rattle.std.specs.Prelude.{ℕ, List, [], nat_eq}
use Rattle.std.specs.Map.{lookup}
use Rattle.std.specs.Option.{option_map_or}

-- slots, and how many more are taken without memory
pub record Listed : Type 0 where
  pub slots : List ℕ
  pub room : ℕ

-- the same for each hash
abbrev pub Lists : Type 0
Lists = List (ℕ × Listed)

-- the slots of a hash, or none
abbrev pub slots_at : Lists → ℕ → List ℕ
slots_at lists hash = option_map_or (λ (listed : Listed). listed.slots) (lookup (nat_eq hash) lists) []

-- how many further slots are taken for a hash without memory
abbrev pub room_at : Lists → ℕ → ℕ
room_at lists hash = option_map_or (λ (listed : Listed). listed.room) (lookup (nat_eq hash) lists) 0
