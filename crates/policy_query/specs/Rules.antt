-- What queries for the rules of a table answer (Casbin, HasPolicy, GetFilteredPolicy).
use Rattle.std.specs.Prelude.{ℕ, Bool, ◌+◌, ◌==◌, nat_lt, List, length, filter, Option, Some, None, Result, if◌then◌else◌}
use Rattle.std.specs.Option.{option_map_or}
use Rattle.perm_base.specs.declared.shapes.Shapes.{Shapes}
use Rattle.perm_base.specs.declared.shapes.TableId.{TableId}
use Rattle.policy_table.specs.Filters.{fits_filter}
use Rattle.policy_table.specs.Limits.{columns_of}
use Rattle.policy_table.specs.Tables.{Fields, Policy, rows, stands}
use Rattle.policy_query.specs.Answers.{answer_unless}
use Rattle.policy_query.specs.declared.refused.QueryRefused.{QueryRefused}
use Rattle.policy_query.specs.declared.refused.QueryRefused.TheVariants.{NoTable, Columns, FilterPlace}

-- a rule that cannot stand in the table: there is no such table, or it has another number of columns
abbrev pub rule_refusal : Shapes → TableId → Fields → Option QueryRefused
rule_refusal shapes table rule = option_map_or
    (λ (columns : ℕ). if length rule == columns then None else Some (Columns columns (length rule)))
    (columns_of shapes table) (Some (NoTable table))

-- whether the rule stands in the table
abbrev pub has_answer : Shapes → Policy → TableId → Fields → Result Bool QueryRefused
has_answer shapes policy table rule = answer_unless (rule_refusal shapes table rule) (stands rule (rows policy table))

-- a filter that the table cannot have: there is no such table, or the filter goes past its columns
abbrev pub filter_refusal : Shapes → TableId → ℕ → Fields → Option QueryRefused
filter_refusal shapes table at values = option_map_or
    (λ (columns : ℕ). if nat_lt columns (at + length values) then Some FilterPlace else None)
    (columns_of shapes table) (Some (NoTable table))

-- the rules of the table that fit the filter, in their order
abbrev pub rows_answer : Shapes → Policy → TableId → ℕ → Fields → Result (List Fields) QueryRefused
rows_answer shapes policy table at values = answer_unless (filter_refusal shapes table at values) (filter (λ (rule : Fields). fits_filter rule at values) (rows policy table))
