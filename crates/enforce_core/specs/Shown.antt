-- Rules by their numbers, as they are shown.
use Rattle.std.specs.Prelude.{ℕ, ◌-◌, ◌==◌, List, Option, None, if◌then◌else◌, option_map, slice_get}
use Rattle.perm_base.specs.FieldLine.{printed}
use Rattle.perm_base.specs.declared.shapes.TableId.TheVariants.{P}
use Rattle.policy_table.specs.Tables.{Fields, Policy, rows}

-- the rule of p with this number, counted from 1
abbrev pub rule_of_number : Policy → ℕ → Option Fields
rule_of_number policy row = if row == 0 then None else slice_get (rows policy P) (row - 1)

-- its text
abbrev pub rule_text : Policy → ℕ → Option (List ℕ)
rule_text policy row = option_map printed (rule_of_number policy row)
