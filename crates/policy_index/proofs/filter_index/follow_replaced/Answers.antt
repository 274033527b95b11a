use Rattle.std.proofs.Common.{◌≡◌, ◌∙◌, Some, ap, arith, length, position, sym}
use Rattle.std.proofs.lemmas.List.{length-map}
use Rattle.policy_table.specs.Slots.{slots}
use Rattle.policy_table.specs.Tables.{same}
use Rattle.policy_table.proofs.CallerLemmas.{found_slot}
use Rattle.policy_index.specs.Hashes.{mark_of}
use Rattle.policy_index.proofs.filter_index.follow_replaced.Goals as goal

pub put_row-requires : goal.put_row-requires
put_row-requires c =
    let found : position (same c.args.old.now) (slots c.args.tables.now c.args.table) ≡ Some c.in-Some.slot = sym c.slot_of.ensures ∙ c.in-Some.is in
    record { slot = omega (arith, (found_slot c.args.old.now c.in-Some.slot (slots c.args.tables.now c.args.table) found).within, ap length c.requires.marks, length-map (slots c.args.tables.now c.args.table) (mark_of c.args.index.now.key)) }

pub returns-clause-rows : goal.returns-clause-rows
returns-clause-rows c = λ ok.
    c.put_row.ensures.rows ok (slots c.args.tables.now c.args.table) c.args.old.now c.requires c.by_slot-by_slot.ensures.stand.once (sym c.slot_of.ensures ∙ c.in-Some.is)
