-- Items whose tables have names, and that are no want of memory.
use Rattle.std.specs.Prelude.{Bool, true, false, Err, is_some}
use Rattle.edit_calls.specs.Refusals.{table_of}
use Rattle.perm_base.specs.TableNames.{name_of}
use Rattle.perm_base.specs.declared.shapes.TableId.{TableId}
use Rattle.perm_base.specs.declared.shapes.TableId.TheVariants.{G}
use Rattle.perm_value.specs.declared.request.RequestFault.{RequestFault}
use Rattle.perm_value.specs.declared.request.RequestFault.TheVariants as fault
use Rattle.script_read.specs.Said.{Said, asks, edits, has, rows, roles, users}

-- a table has a name
abbrev pub has_name : TableId → Bool
has_name table = is_some (name_of table)

-- why a line is no request is told, but for want of memory
abbrev pub is_request_told : RequestFault → Bool
is_request_told fault.NoMemory = false
is_request_told _ = true

-- the table of an item has a name, and why a line is no request can be told
abbrev pub is_named : Said → Bool
is_named (asks (Err e)) = is_request_told e
is_named (edits call) = has_name (table_of call)
is_named (has table rule) = has_name table
is_named (rows table at values) = has_name table
is_named (roles relation name domain) = has_name (G relation)
is_named (users relation name domain) = has_name (G relation)
is_named _ = true
