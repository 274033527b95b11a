-- Which answers are told: all but want of memory, where each table that is named has a name, and each row its rule.
use Rattle.std.specs.Prelude.{ℕ, Bool, true, false, Option, Some, None, is_some}
use Rattle.answer_lines.specs.declared.answer.Answer.{Answer}
use Rattle.answer_lines.specs.declared.answer.Answer.TheVariants as answer
use Rattle.edit_calls.specs.declared.refused.CallRefused.{CallRefused}
use Rattle.edit_calls.specs.declared.refused.CallRefused.TheVariants as call
use Rattle.effect_fold.specs.declared.verdict.Verdict.{Verdict}
use Rattle.effect_fold.specs.declared.verdict.Verdict.TheVariants.{Allow, Deny, Fault}
use Rattle.policy_query.specs.declared.refused.QueryRefused.{QueryRefused}
use Rattle.policy_query.specs.declared.refused.QueryRefused.TheVariants as query
use Rattle.policy_table.specs.Tables.{Fields}
pub use Rattle.script_read.specs.Named.{has_name, is_request_told}

-- where there is a row, there is its rule
abbrev pub row_has_rule : Option ℕ → Option Fields → Bool
row_has_rule None rule = true
row_has_rule (Some row) rule = is_some rule

-- an allow or deny that names a row comes with its rule
abbrev pub comes_with_rule : Verdict → Option Fields → Bool
comes_with_rule (Allow row) rule = row_has_rule row rule
comes_with_rule (Deny row) rule = row_has_rule row rule
comes_with_rule (Fault row failed) rule = true

-- why a call is refused
abbrev pub is_call_told : CallRefused → Bool
is_call_told (call.NoTable table) = has_name table
is_call_told call.NoMemory = false
is_call_told _ = true

-- why a query is refused
abbrev pub is_query_told : QueryRefused → Bool
is_query_told (query.NoTable table) = has_name table
is_query_told query.NoMemory = false
is_query_told _ = true

-- an answer that can be printed
abbrev pub is_printable : Answer → Bool
is_printable (answer.Decided version verdict rule) = comes_with_rule verdict rule
is_printable (answer.Request fault) = is_request_told fault
is_printable (answer.Call refused) = is_call_told refused
is_printable (answer.Query refused) = is_query_told refused
is_printable (answer.Rows version table rules) = has_name table
is_printable _ = true
