-- What is seen of one table, and of several.
use Rattle.std.specs.Prelude.{◌≡◌, ℕ, Bool, true, false, IsTrue, List, ◌∷◌, map, min, replicate, if◌then◌else◌}
use Rattle.policy_table.specs.Held.{Held}
use Rattle.policy_table.specs.Helps.Domains.{AreCounted, Counted}
use Rattle.policy_table.specs.Limits.{domains_of}
use Rattle.policy_table.specs.Tables.{AreRising, Fields, IsKept, Lists, Policy}

-- the rules of one table in their order and by their slots, its room, and whether their domains are counted
pub record Rows : Type 0 where
  pub rules : List Fields
  pub slots : List Fields
  pub spare : ℕ
  pub counted : Bool

-- the domains of the rules are counted, where they are to be
abbrev pub CountsRules : Bool → List Fields → Counted → Type 0
CountsRules counted rules domains = counted ≡ true → AreCounted (domains_of rules) domains

-- the room of rules, and where their domains are counted of these too
abbrev pub room_of : Bool → ℕ → ℕ → ℕ
room_of counted rules domains = if counted then min rules domains else rules

-- rules that stand in rising order where they are ranked
abbrev pub RiseWhere : Bool → List Fields → Type 0
RiseWhere ranked rules = IsTrue ranked → AreRising rules

-- the rules of tables
abbrev pub lists_of : List Rows → Lists
lists_of tables = map (λ (rows : Rows). rows.rules) tables

-- those by their slots
abbrev pub slots_of : List Rows → Lists
slots_of tables = map (λ (rows : Rows). rows.slots) tables

-- the tables with the mark of p
abbrev pub policy_of : Bool → List Rows → Policy
policy_of ranked tables = record { lists = lists_of tables; ranked = ranked }

-- the room of tables
abbrev pub spare_of : List Rows → List ℕ
spare_of tables = map (λ (rows : Rows). rows.spare) tables

-- which tables count domains: those of the relations
abbrev pub counting : List Bool
counting = false ∷ replicate 8 true

-- which of these tables do
abbrev pub counted_of : List Rows → List Bool
counted_of tables = map (λ (rows : Rows). rows.counted) tables

-- what tables keep, and that the relations count their domains
pub record AreTables (ranked : Bool) (tables : List Rows) : Type 0 where
  pub kept : IsKept (policy_of ranked tables)
  pub counted : counted_of tables ≡ counting

-- tables with their mark, as contracts see them
abbrev pub held_of : Bool → List Rows → Held
held_of ranked tables = record { policy = policy_of ranked tables; spare = spare_of tables; slots = slots_of tables }
