use Rattle.std.proofs.Common.{ap, arith, length, subst, sym}
use Rattle.std.proofs.lemmas.List.{length-map}
use Rattle.policy_index.specs.Hashes.{mark_of}
use Rattle.policy_index.specs.Indexed.{Indexed, IsIndexOf}
use Rattle.policy_index.proofs.CommitLemmas.{index_removed}
use Rattle.policy_index.proofs.index.Index.take_row.Goals as goal

pub remove-requires : goal.remove-requires
remove-requires c = omega (arith, c.requires.slot, ap (λ (i : Indexed). length i.marks) c.self.view_is)

pub returns-clause-rows : goal.returns-clause-rows
returns-clause-rows c = λ ok by_slot is.
    c.forget_emptied.ensures.stays _
    (index_removed _ c.remove.new.self by_slot (subst (λ (i : Indexed). IsIndexOf i by_slot) (sym c.self.view_is) is) c.remove.ensures.key c.args.slot
    (omega (arith, c.requires.slot, ap length is.marks, length-map by_slot (mark_of c.args.self.now.key))) c.remove.ensures.marks)
