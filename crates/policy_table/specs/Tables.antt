-- The tables of a policy: for p, and for each role relation g to g8, a list of rules without repeats (Casbin, policy); where
-- p is ranked, it stands in rising order of rank (Casbin, priority model).
use Rattle.std.specs.Prelude.{◌≡◌, ℕ, ◌<◌, ◌^◌, ◌&&◌, Bool, false, not, nat_lt, IsTrue, List, [], length, All, AllPairs, Option, Some, None, if◌then◌else◌, get_or, replicate}
use Rattle.std.specs.Cmp.Lexicographic.{pointwise}
use Rattle.std.specs.List.{list_any, IsDistinct}
use Rattle.std.specs.Option.{option_map_or}
use Rattle.std.specs.Str.{bytes_eq}
use Rattle.perm_base.specs.declared.shapes.TableId.{TableId}
use Rattle.perm_base.specs.declared.shapes.TableId.TheVariants.{P, G}
use Rattle.policy_table.specs.Ranks.{is_above}

-- the fields of a rule
abbrev pub Fields : Type 0
Fields = List (List ℕ)

-- one list of rules for each table: that of p, then those of g to g8
abbrev pub Lists : Type 0
Lists = List (List Fields)

-- how many tables there are
abbrev pub most_tables : ℕ
most_tables = 9

-- the place of a table among them; a relation that is not numbered 1 to 8 has none
abbrev pub place : TableId → Option ℕ
place P = Some 0
place (G number) = if nat_lt 0 number && nat_lt number most_tables then Some number else None

-- the rules of all tables, and whether p is ranked
pub record Policy : Type 0 where
  pub lists : Lists
  pub ranked : Bool

-- the rules of a table
abbrev pub rows : Policy → TableId → List Fields
rows policy table = option_map_or (λ (at : ℕ). get_or policy.lists at []) (place table) []

-- two rules with the same fields
abbrev pub same : Fields → Fields → Bool
same first second = pointwise bytes_eq first second

-- the rule stands among these
abbrev pub stands : Fields → List Fields → Bool
stands rule rules = list_any (same rule) rules

-- nine lists, each of fewer than 2^32 rules
pub record AreLists (lists : Lists) : Type 0 where
  pub counted : length lists ≡ most_tables
  pub few : All (λ (rules : List Fields). length rules < 2 ^ 32) lists

-- tables without rules, p ranked or not
abbrev pub without_rules : Bool → Policy
without_rules ranked = record { lists = replicate most_tables []; ranked = ranked }

-- the table is ranked: p may be, relations never are
abbrev pub is_ranked : Policy → TableId → Bool
is_ranked policy P = policy.ranked
is_ranked policy (G number) = false

-- no rule stands behind one of a higher rank
abbrev pub AreRising : List Fields → Type 0
AreRising rules = AllPairs (λ (first second : Fields). IsTrue (not (is_above first second))) rules

-- what tables keep whatever their lengths: there are nine, no rule stands twice in one, and a ranked p stands in rising
-- order of rank
pub record AreOrdered (policy : Policy) : Type 0 where
  pub counted : length policy.lists ≡ most_tables
  pub once : (table : TableId) → IsDistinct same (rows policy table)
  pub rising : IsTrue policy.ranked → AreRising (rows policy P)

-- what all tables keep: beside that none has 2^32 rules
pub record IsKept (policy : Policy) : Type 0 where
  pub lists : AreLists policy.lists
  pub once : (table : TableId) → IsDistinct same (rows policy table)
  pub rising : IsTrue policy.ranked → AreRising (rows policy P)
