-- Which rules stand behind changes that are told and not made.
use Rattle.std.specs.Prelude.{◌≡◌, ℕ, Bool, ◌&&◌, List, Some, cond, length, nat_eq, unwrap_or}
use Rattle.std.specs.Borrow.{Bor}
use Rattle.std.specs.Map.{lookup}
use Rattle.perm_base.specs.declared.shapes.TableId.{TableId}
use Rattle.policy_table.specs.Tables.{Fields, Policy, most_tables, place, rows, same, stands}

-- whether rules stand, each by the place of its table
abbrev pub Told : Type 0
Told = List ((ℕ × Bor Fields) × Bool)

-- the key of a rule of the table at this place
abbrev pub is_key : ℕ → Fields → ℕ × Bor Fields → Bool
is_key at rule key = nat_eq at key.0 && same rule key.1.now

-- the rule stands in the table at this place: as was told, and where nothing was, as it stands in the tables
abbrev pub stands_told : Told → Policy → TableId → ℕ → Fields → Bool
stands_told told before table at rule = unwrap_or (lookup (is_key at rule) told) (stands rule (rows before table))

-- of one rule it is told now whether it stands, and of others what was told
abbrev pub TellsOf : ℕ → Fields → Bool → Told → Told → Type 0
TellsOf at rule standing old new = (other : ℕ) (fields : Fields) → lookup (is_key other fields) new ≡ cond (nat_eq at other && same rule fields) (Some standing) (lookup (is_key other fields) old)

-- behind the changes that are told, the nine tables have the rules that stand so
pub record AreTold (told : Told) (before after : Policy) : Type 0 where
  pub counted : length after.lists ≡ most_tables
  pub each : (table : TableId) (at : ℕ) (rule : Fields) → place table ≡ Some at → stands_told told before table at rule ≡ stands rule (rows after table)
