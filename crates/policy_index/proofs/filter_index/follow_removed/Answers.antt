use Rattle.std.proofs.Common.{◌≡◌, ◌∙◌, Some, ap, arith, length, position, subst, sym}
use Rattle.std.proofs.lemmas.List.{length-map}
use Rattle.policy_table.specs.Slots.{slots}
use Rattle.policy_table.specs.Tables.{same}
use Rattle.policy_table.proofs.CallerLemmas.{found_slot, found_swap}
use Rattle.policy_index.specs.Hashes.{mark_of}
use Rattle.policy_index.specs.Indexed.{IsIndexOf}
use Rattle.policy_index.proofs.filter_index.follow_removed.Goals as goal

pub take_row-requires : goal.take_row-requires
take_row-requires c =
    let found : position (same c.args.rule.now) (slots c.args.tables.now c.args.table) ≡ Some c.in-Some.slot = sym c.slot_of.ensures ∙ c.in-Some.is in
    record { slot = omega (arith, (found_slot c.args.rule.now c.in-Some.slot (slots c.args.tables.now c.args.table) found).within, ap length c.requires.marks, length-map (slots c.args.tables.now c.args.table) (mark_of c.args.index.now.key)) }

pub returns-clause-rows : goal.returns-clause-rows
returns-clause-rows c = λ ok.
    let found : position (same c.args.rule.now) (slots c.args.tables.now c.args.table) ≡ Some c.in-Some.slot = sym c.slot_of.ensures ∙ c.in-Some.is in
    subst (IsIndexOf c.take_row.new.self) (sym (found_swap (same c.args.rule.now) (slots c.args.tables.now c.args.table) c.in-Some.slot found)) (c.take_row.ensures.rows ok (slots c.args.tables.now c.args.table) c.requires)
