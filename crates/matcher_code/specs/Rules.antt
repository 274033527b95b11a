-- The rules of code: no operand lacks, what an instruction names is there, and each place is reached with one height of the stack.
use Rattle.std.specs.Prelude.{◌≡◌, ℕ, ◌+◌, ◌-◌, ◌^◌, ◌<◌, ◌≤◌, ◌==◌, ◌&&◌, ◌||◌, Bool, false, true, not, nat_lt, nat_le, if◌then◌else◌, List, [], ◌∷◌, length, take, max, Option, Some, None, option_map, slice_get}
use Rattle.matcher_read.specs.Calls.{arity}
use Rattle.matcher_read.specs.declared.tree.Operator.{Operator}
use Rattle.matcher_read.specs.declared.tree.Operator.TheVariants as operators
use Rattle.matcher_code.specs.declared.op.Op.{Op}
use Rattle.matcher_code.specs.declared.op.Instruction.{Instruction}
use Rattle.matcher_code.specs.declared.op.Instruction.TheVariants as i

-- how many values an instruction has to find on the stack
abbrev pub finds : Instruction → ℕ
finds (i.Text bytes) = 0
finds (i.Whole n) = 0
finds (i.Truth b) = 0
finds (i.Request column) = 0
finds (i.Policy column) = 0
finds (i.Attribute name) = 1
finds i.Not = 1
finds i.Negate = 1
finds (i.Binary op) = 2
finds (i.SkipFalse to) = 1
finds (i.SkipTrue to) = 1
finds i.NeedTruth = 1
finds (i.Member to) = 2
finds i.Miss = 1
finds (i.Function called) = arity called
finds (i.Role number names) = names
finds (i.Eval column) = 0

-- how many of them are still there behind it, with the value that it puts there, where the machine goes on
abbrev pub leaves : Instruction → ℕ
leaves (i.SkipFalse to) = 0
leaves (i.SkipTrue to) = 0
leaves _ = 1

-- the height behind an instruction from the height before it; None once operands lacked
abbrev pub height_behind : Instruction → Option ℕ → Option ℕ
height_behind instruction None = None
height_behind instruction (Some height) = if nat_le (finds instruction) height then Some (height - finds instruction + leaves instruction) else None

-- the height behind these instructions
abbrev pub height_behind_all : Option ℕ → List Op → Option ℕ
height_behind_all height [] = height
height_behind_all height (op ∷ ops) = height_behind_all (height_behind op.instruction height) ops

-- the height at a place of the code, where the machine goes on from the first
abbrev pub height_at : List Op → ℕ → Option ℕ
height_at ops at = height_behind_all (Some 0) (take at ops)

-- the height, or 0 where there is none
abbrev pub height_or_none : Option ℕ → ℕ
height_or_none None = 0
height_or_none (Some height) = height

-- the greatest height at or behind one of these instructions, the first of which begins with this one
abbrev pub greatest_from : Option ℕ → List Op → ℕ
greatest_from height [] = height_or_none height
greatest_from height (op ∷ ops) = max (height_or_none height) (greatest_from (height_behind op.instruction height) ops)

-- the greatest height at any place
abbrev pub greatest_height : List Op → ℕ
greatest_height ops = greatest_from (Some 0) ops

-- the place where an instruction may make the machine go on
abbrev pub jump : Instruction → Option ℕ
jump (i.SkipFalse to) = Some to
jump (i.SkipTrue to) = Some to
jump (i.Member to) = Some to
jump _ = None

-- the height with which it goes on there, from the height before: a value that is skipped by stays
abbrev pub height_landing : Instruction → ℕ → ℕ
height_landing (i.Member to) height = height - 1
height_landing _ height = height

-- an operator that evaluates its right side at times
abbrev pub is_logical : Operator → Bool
is_logical operators.Or = true
is_logical operators.And = true
is_logical _ = false

-- a place behind this one, or the end
abbrev pub lies_behind : ℕ → ℕ → ℕ → Bool
lies_behind at size to = nat_lt at to && nat_le to size

-- the relation is one of eight, asked with two names or three
abbrev pub is_role : ℕ → ℕ → Bool
is_role number names = (nat_lt 0 number && nat_le number 8) && (names == 2 || names == 3)

-- what an instruction names is there, in code of this size with so many columns: its columns and the place that it jumps to; its operator takes two values, and its relation has two or three names
abbrev pub names_rightly : ℕ → ℕ → ℕ → ℕ → Instruction → Bool
names_rightly columns policy_columns at size (i.Request column) = nat_lt column columns
names_rightly columns policy_columns at size (i.Policy column) = nat_lt column policy_columns
names_rightly columns policy_columns at size (i.Eval column) = nat_lt column policy_columns
names_rightly columns policy_columns at size (i.Binary op) = not (is_logical op)
names_rightly columns policy_columns at size (i.SkipFalse to) = lies_behind at size to
names_rightly columns policy_columns at size (i.SkipTrue to) = lies_behind at size to
names_rightly columns policy_columns at size (i.Member to) = lies_behind at size to
names_rightly columns policy_columns at size (i.Role number names) = is_role number names
names_rightly columns policy_columns at size _ = true

-- an instruction finds its operands and names what is there; at the end there is one value
abbrev pub is_right : ℕ → ℕ → ℕ → ℕ → Option Op → Option ℕ → Bool
is_right columns policy_columns at size (Some op) (Some height) = nat_le (finds op.instruction) height && names_rightly columns policy_columns at size op.instruction
is_right columns policy_columns at size None (Some height) = height == 1
is_right columns policy_columns at size op None = false

-- the place keeps the rules: what stands there is right, and each jump from an earlier place comes with the height of going on
pub record KeepsRules (ops : List Op) (columns policy_columns at : ℕ) : Type 0 where
  pub right : is_right columns policy_columns at (length ops) (slice_get ops at) (height_at ops at) ≡ true
  pub landing : (from : ℕ) (op : Op) → from < at → slice_get ops from ≡ Some op → jump op.instruction ≡ Some at
      → option_map (height_landing op.instruction) (height_at ops from) ≡ height_at ops at

-- each place does, and so does the end
pub record IsVerified (ops : List Op) (columns policy_columns : ℕ) : Type 0 where
  pub each : (at : ℕ) → at ≤ length ops → KeepsRules ops columns policy_columns at

-- the first place that breaks a rule
pub record IsFirstBreak (ops : List Op) (columns policy_columns at : ℕ) : Type 0 where
  pub within : at ≤ length ops
  pub earlier : (before : ℕ) → before < at → KeepsRules ops columns policy_columns before
  pub broken : ¬ (KeepsRules ops columns policy_columns at)

-- what code is: its instructions, the numbers of columns of a request and of a policy that it names, and its greatest height
pub record CodeParts : Type 0 where
  pub ops : List Op
  pub columns : ℕ
  pub policy_columns : ℕ
  pub height : ℕ

-- of these parts
abbrev pub code_parts : List Op → ℕ → ℕ → ℕ → CodeParts
code_parts ops columns policy_columns height = record { ops = ops; columns = columns; policy_columns = policy_columns; height = height }

-- it is verified, it has fewer than 2^32 instructions, and its height is the greatest
pub record IsCode (code : CodeParts) : Type 0 where
  pub verified : IsVerified code.ops code.columns code.policy_columns
  pub few : length code.ops < 2 ^ 32
  pub highest : code.height ≡ greatest_height code.ops
