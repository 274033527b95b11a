use Rattle.std.proofs.Common.{take}
use Rattle.std.specs.Option.{option_copied}
use Rattle.policy_table.specs.Tables.{rows}
use Rattle.policy_query.specs.Helps.Named.{ArePlaced}
use Rattle.policy_query.proofs.named.places_among.Given as goal

abbrev pub invariant-loop-role : goal.invariant-loop-role
invariant-loop-role l = ArePlaced l.name (option_copied l.domain) (take l.role-index l.among) (rows l.tables.policy l.table) l.places.items
