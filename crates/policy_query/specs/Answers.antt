-- The answer of a query: a value, or why it is refused.
use Rattle.std.specs.Prelude.{◌≡◌, ⊤, Option, Some, None, Result, Ok, Err}
use Rattle.policy_query.specs.declared.refused.QueryRefused.{QueryRefused}
use Rattle.policy_query.specs.declared.refused.QueryRefused.TheVariants.{NoTable, Columns, FilterPlace, NoMemory, NoEdit, Dropped}

-- the value, unless the query is refused
abbrev pub answer_unless : {T : Type 0} → Option QueryRefused → T → Result T QueryRefused
answer_unless (Some refused) value = Err refused
answer_unless None value = Ok value

-- the result is the answer; want of memory may come at any time
abbrev pub IsAnswer : {T : Type 0} → Result T QueryRefused → Result T QueryRefused → Type 0
IsAnswer answer (Ok value) = answer ≡ Ok value
IsAnswer answer (Err NoMemory) = ⊤
IsAnswer answer (Err (NoTable table)) = answer ≡ Err (NoTable table)
IsAnswer answer (Err (Columns want got)) = answer ≡ Err (Columns want got)
IsAnswer answer (Err FilterPlace) = answer ≡ Err FilterPlace
IsAnswer answer (Err (NoEdit version)) = answer ≡ Err (NoEdit version)
IsAnswer answer (Err (Dropped start)) = answer ≡ Err (Dropped start)
