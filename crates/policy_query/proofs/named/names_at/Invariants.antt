use Rattle.std.proofs.Common.{◌≡◌, false, take}
use Rattle.std.specs.List.{list_any}
use Rattle.std.specs.Option.{option_copied}
use Rattle.perm_base.specs.LineEnds.{has_line_end}
use Rattle.policy_table.specs.Tables.{rows}
use Rattle.policy_query.specs.Found.{rows_at}
use Rattle.policy_query.specs.Names.{names_beside}
use Rattle.policy_query.proofs.NameLemmas.{shown}
use Rattle.policy_query.proofs.named.names_at.Given as goal

abbrev pub invariant-loop-place : goal.invariant-loop-place
invariant-loop-place l = (shown l.names.keys ≡ names_beside l.asked l.told l.name (option_copied l.domain) (take l.place-index (rows_at (rows l.tables.policy l.table) l.places))) × (list_any has_line_end (shown l.names.keys) ≡ false)
