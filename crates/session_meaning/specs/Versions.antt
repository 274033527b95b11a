-- Which version of the policy is out behind the items of a script, and from where on its edits are kept. A version is the number
-- of its edits.
use Rattle.std.specs.Prelude.{ℕ, ◌-◌, max, Bool, true, false, List, [], ◌∷◌, ◌++◌, length, take, Option, Some, None}
use Rattle.std.specs.List.{before_last, filter_map, last_or}
use Rattle.std.specs.Option.{option_map_or}
use Rattle.perm_base.specs.declared.shapes.Shapes.{Shapes}
use Rattle.policy_table.specs.Changes.{replay}
use Rattle.policy_table.specs.Tables.{Policy}
use Rattle.script_read.specs.Said.{Said}
use Rattle.script_read.specs.Said as said
use Rattle.session_meaning.specs.Given.{given}

abbrev pub is_publish : Said → Bool
is_publish said.publishes = true
is_publish _ = false

-- the count of an item that says how many edits to keep
abbrev pub count_of : Said → Option ℕ
count_of (said.keeps count) = Some count
count_of _ = None

-- how many edits are to be kept, as the last such item says; none until one does
unfoldable pub kept : List Said → Option ℕ
kept items = last_or None (filter_map count_of items)

module _ (shapes : Shapes) (opening : Policy) where
  -- the version that is out: how many edits were given at the last publish, and 0 where there is none
  unfoldable pub out : List Said → ℕ
  out items = length (given shapes opening (before_last is_publish items))

  -- the tables of a version: the opening tables after its edits
  abbrev pub tables_at : List Said → ℕ → Policy
  tables_at items version = replay (take version (given shapes opening items)) opening

  -- the tables that are out
  abbrev pub published : List Said → Policy
  published items = tables_at items (out items)

  -- the start that an item behind others asks for: a publish asks for the version that is out before it less the count that is
  -- to be kept, where there is one
  abbrev pub start_asked : List Said → Said → ℕ
  start_asked before said.publishes = option_map_or (λ (count : ℕ). out before - count) (kept before) 0
  start_asked before _ = 0

  -- the greatest start that items behind others ask for
  abbrev pub start_behind : List Said → List Said → ℕ
  start_behind before [] = 0
  start_behind before (item ∷ items) = max (start_asked before item) (start_behind (before ++ item ∷ []) items)

  -- the version at which the kept edits start: the greatest that was asked for, and 0 where none was
  unfoldable pub start : List Said → ℕ
  start items = start_behind [] items
