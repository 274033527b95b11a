-- How far code was checked.
use Rattle.std.specs.Prelude.{◌≡◌, ℕ, ◌<◌, ◌≤◌, ◌==◌, nat_lt, if◌then◌else◌, List, length, take, Option, Some, None, option_map, slice_get}
use Rattle.matcher_code.specs.Rules.{KeepsRules, greatest_height, height_at, height_landing, jump}
use Rattle.matcher_code.specs.declared.height_walk.Known.{Known}
use Rattle.matcher_code.specs.declared.height_walk.Walk.{Walk}
use Rattle.matcher_code.specs.declared.op.Op.{Op}

-- a place, and the height there
abbrev pub IsKnown : List Op → Known → Type 0
IsKnown ops known = height_at ops known.place ≡ known.height

-- the earlier of two places
abbrev pub earlier_of : Option ℕ → ℕ → ℕ
earlier_of None place = place
earlier_of (Some clash) place = if nat_lt clash place then clash else place

-- the first place that is reached with two heights, of those seen so far and one that a jump comes to with this height
abbrev pub clash_with : Option ℕ → ℕ → Option ℕ → ℕ → Option ℕ
clash_with clash place None landing = clash
clash_with clash place (Some reached) landing = if reached == landing then clash else Some (earlier_of clash place)

-- the place, and all before it, are reached with one height as far as was seen
abbrev pub IsClear : Option ℕ → ℕ → Type 0
IsClear clash to = (place : ℕ) → clash ≡ Some place → to < place

-- the places before this one keep the rules, and what was seen of those behind it
pub record IsWalked (ops : List Op) (columns policy_columns at : ℕ) (walk : Walk) : Type 0 where
  pub height : height_at ops at ≡ Some walk.height
  pub kept : (before : ℕ) → before < at → KeepsRules ops columns policy_columns before
  pub greatest : walk.greatest ≡ greatest_height (take at ops)
  pub known : IsKnown ops walk.known
  pub clash : (place : ℕ) → walk.clash ≡ Some place → (at ≤ place) × (place ≤ length ops) × ¬ (KeepsRules ops columns policy_columns place)
  pub jumps : (from to reached : ℕ) (op : Op) → from < at → at ≤ to → slice_get ops from ≡ Some op → jump op.instruction ≡ Some to → height_at ops to ≡ Some reached → IsClear walk.clash to
      → option_map (height_landing op.instruction) (height_at ops from) ≡ Some reached
