use Rattle.std.proofs.Common.{◌<◌, length, arith}
use Rattle.std.proofs.lemmas.Bool.Decides.{nat_tests}
use Rattle.std.specs.Prelude.{nat_eq}
use Rattle.std.proofs.lemmas.List.Filters.{dedup_is}
use Rattle.policy_table.specs.Slots.{slots}
use Rattle.policy_table.specs.Tables.{rows}
use Rattle.policy_index.proofs.OrderLemmas.{few_places, ordered_places}
use Rattle.policy_index.proofs.order.put_rows_in_order.Goals as goal

pub returns : goal.returns
returns c =
    ordered_places (slots c.args.tables.now c.args.table) (rows c.args.tables.now.policy c.args.table) c.args.found.now.items c.put_places.new.found.items c.sort_unstable.new.self.items c.dedup.new.self.items (c.kept.ensures.once c.args.table) c.put_places.ensures
    c.sort_unstable.ensures.permutation c.sort_unstable.ensures.sorted (dedup_is nat_eq c.sort_unstable.new.self.items c.dedup.new.self.items c.dedup.ensures.filtered)

pub returns-then-len-lt2 : goal.returns-then-len-lt2
returns-then-len-lt2 c =
    let few : length c.put_places.new.found.items < 2 = grind (arith, nat_tests) in
    few_places (slots c.args.tables.now c.args.table) (rows c.args.tables.now.policy c.args.table) c.args.found.now.items c.put_places.new.found.items (c.kept.ensures.once c.args.table) c.put_places.ensures few
