-- Changes of tables, and edits: lists of changes that are made one after the other (Casbin, policy management API).
use Rattle.std.specs.Prelude.{Bool, true, false, not, ◌&&◌, ◌==◌, List, [], ◌∷◌, ◌++◌, filter, map, is_some, if◌then◌else◌, slice_set}
use Rattle.std.specs.Option.{option_map_or}
use Rattle.perm_base.specs.declared.shapes.TableId.{TableId}
use Rattle.perm_base.specs.declared.shapes.TableId.TheVariants.{P, G}
use Rattle.policy_table.specs.Ranks.{is_above, is_level}
use Rattle.policy_table.specs.Tables.{Fields, Policy, is_ranked, place, rows, same, stands}
use Rattle.policy_table.specs.declared.change.Change.{Change}
use Rattle.policy_table.specs.declared.change.Change.TheVariants.{Insert, Remove, Replace}

-- the table of a change
abbrev pub table_of : Change → TableId
table_of (Insert table rule) = table
table_of (Remove table rule) = table
table_of (Replace table old new) = table

-- a rule behind the last one of ranked rules whose rank is not above its own; in front where there is none
abbrev pub ranked_in : Fields → List Fields → List Fields
ranked_in rule rules = filter (λ (other : Fields). not (is_above other rule)) rules ++ rule ∷ filter (λ (other : Fields). is_above other rule) rules

-- the rules without one of them
abbrev pub without : Fields → List Fields → List Fields
without rule rules = filter (λ (other : Fields). not (same rule other)) rules

-- a new rule in the place of an old one
abbrev pub in_place : Fields → Fields → List Fields → List Fields
in_place old new rules = map (λ (other : Fields). if same old other then new else other) rules

-- ranked rules with others, each put behind the last whose rank is not above its own
unfoldable pub ranked_behind : List Fields → List Fields → List Fields
ranked_behind front [] = front
ranked_behind front (rule ∷ rules) = ranked_behind (ranked_in rule front) rules

-- the rules in rising order of rank, those of one rank in the order in which they stand
abbrev pub by_rank : List Fields → List Fields
by_rank rules = ranked_behind [] rules

-- the tables with p ranked
abbrev pub ranked_policy : Policy → Policy
ranked_policy policy = record { lists = slice_set policy.lists 0 (by_rank (rows policy P)); ranked = true }

-- the rules with one more, ranked or not: it goes last, or behind the last whose rank is not above its own
abbrev pub inserted : Bool → Fields → List Fields → List Fields
inserted ranked rule rules = if ranked then ranked_in rule rules else rules ++ rule ∷ []

-- the rules with a new one for an old one: it takes the old one's place, but where the rules are ranked and the two are of
-- different ranks the old one goes and the new one is inserted
abbrev pub replaced : Bool → Fields → Fields → List Fields → List Fields
replaced ranked old new rules = if ranked && not (is_level old new) then ranked_in new (without old rules) else in_place old new rules

-- the rules of a table after a change, ranked or not
abbrev pub changed_rules : Bool → Change → List Fields → List Fields
changed_rules ranked (Insert table rule) rules = inserted ranked rule rules
changed_rules ranked (Remove table rule) rules = without rule rules
changed_rules ranked (Replace table old new) rules = replaced ranked old new rules

-- the tables after a change
abbrev pub changed : Change → Policy → Policy
changed change policy = record policy {
  lists = option_map_or (λ at. slice_set policy.lists at (changed_rules (is_ranked policy (table_of change)) change (rows policy (table_of change))))
      (place (table_of change)) policy.lists;
}

-- the tables after an edit
unfoldable pub edited : List Change → Policy → Policy
edited [] policy = policy
edited (change ∷ changes) policy = edited changes (changed change policy)

-- an inserted rule and a new one are absent, a removed rule and an old one stand
abbrev pub suits : Change → List Fields → Bool
suits (Insert table rule) rules = not (stands rule rules)
suits (Remove table rule) rules = stands rule rules
suits (Replace table old new) rules = stands old rules && not (stands new rules)

-- the change is of a table, and suits its rules
abbrev pub is_possible : Change → Policy → Bool
is_possible change policy = is_some (place (table_of change)) && suits change (rows policy (table_of change))

-- an edit applies where each change is possible at its turn
unfoldable pub applies : List Change → Policy → Bool
applies [] policy = true
applies (change ∷ changes) policy = is_possible change policy && applies changes (changed change policy)

-- the changes of edits, one edit after the other
abbrev pub flat : List (List Change) → List Change
flat [] = []
flat (edit ∷ edits) = edit ++ flat edits

-- the tables after edits, one after the other
abbrev pub replay : List (List Change) → Policy → Policy
replay [] policy = policy
replay (edit ∷ edits) policy = replay edits (edited edit policy)

-- two names of one table
abbrev pub is_table : TableId → TableId → Bool
is_table P P = true
is_table P (G number) = false
is_table (G number) P = false
is_table (G number) (G other) = number == other

-- the changes of one table
abbrev pub own : TableId → List Change → List Change
own table changes = filter (λ (change : Change). is_table table (table_of change)) changes
