use Rattle.std.proofs.Common.{ap, arith, length, subst, sym}
use Rattle.std.proofs.lemmas.List.{length-map}
use Rattle.perm_base.specs.declared.shapes.TableId.TheVariants.{P}
use Rattle.policy_table.specs.Slots.{slots}
use Rattle.policy_table.specs.Tables.{same}
use Rattle.policy_table.proofs.CallerLemmas.{found_swap}
use Rattle.policy_index.specs.Hashes.{mark_of}
use Rattle.policy_index.specs.Indexed.{IsIndexOf}
use Rattle.policy_index.proofs.CommitLemmas.{index_removed}
use Rattle.policy_index.proofs.MarkLemmas.{shorter}
use Rattle.policy_index.proofs.index.Index.take.Goals as goal

pub remove-requires : goal.remove-requires
remove-requires c = omega (arith, c.slot_of-slot.ensures.within, ap length c.requires.index.marks, length-map (slots c.args.tables.now P) (mark_of c.args.self.now.key))

pub returns-clause-index : goal.returns-clause-index
returns-clause-index c =
    subst (IsIndexOf c.remove.new.self) (sym (found_swap (same c.args.rule.now) (slots c.args.tables.now P) c.slot_of-slot.result c.slot_of-slot.ensures.found))
    (index_removed c.args.self.now c.remove.new.self (slots c.args.tables.now P) c.requires.index c.remove.ensures.key c.slot_of-slot.result c.slot_of-slot.ensures.within c.remove.ensures.marks)

pub returns-clause-marks : goal.returns-clause-marks
returns-clause-marks c =
    let d = mark_of c.args.self.now.key c.args.rule.now in
    omega (
      arith,
      ap length (c.remove.ensures.marks d),
      shorter c.args.self.now.marks c.slot_of-slot.result (omega (arith, c.slot_of-slot.ensures.within, ap length c.requires.index.marks, length-map (slots c.args.tables.now P) (mark_of c.args.self.now.key))) d,
    )
