use Rattle.std.proofs.Common.{◌+◌, ◌<◌, ◌≤◌, ◌==◌, ◌∙◌, ap, arith, length, set, subst, sym}
use Rattle.std.proofs.lemmas.List.{length-map, length-set}
use Rattle.perm_base.specs.declared.shapes.TableId.TheVariants.{P}
use Rattle.policy_table.specs.Slots.{slots}
use Rattle.policy_index.specs.Hashes.{mark_of}
use Rattle.policy_index.specs.Helps.Kept.{one_if}
use Rattle.policy_index.specs.Indexed.{Indexed}
use Rattle.policy_index.specs.Lists.{room_at}
use Rattle.policy_index.specs.declared.mark.Mark.{Mark}
use Rattle.policy_index.proofs.CommitLemmas.{index_set}
use Rattle.policy_index.proofs.index.Index.replace.Goals as goal

pub set-requires-clause-slot : goal.set-requires-clause-slot
set-requires-clause-slot c = omega (arith, c.slot_of-slot.ensures.within, ap length c.requires.index.marks, length-map (slots c.args.tables.now P) (mark_of c.args.self.now.key))

pub set-requires-clause-room : goal.set-requires-clause-room
set-requires-clause-room c =
    subst (λ (m : Mark). 0 < room_at c.args.self.now.lists m.hash) (sym (c.mark_of-mark.ensures ∙ ap (λ (i : Indexed). mark_of i.key c.args.new.now) c.self.view_is)) c.requires.room

pub returns-clause-index : goal.returns-clause-index
returns-clause-index c =
    index_set c.args.self.now c.set.new.self _ c.requires.index c.set.ensures.key c.args.old.now c.args.new.now c.slot_of-slot.result c.slot_of-slot.ensures.once c.slot_of-slot.ensures.found c.requires.fits
    (c.set.ensures.marks ∙ ap (set c.args.self.now.marks c.slot_of-slot.result) (c.mark_of-mark.ensures ∙ ap (λ (i : Indexed). mark_of i.key c.args.new.now) c.self.view_is))

pub returns-clause-marks : goal.returns-clause-marks
returns-clause-marks c = ap length c.set.ensures.marks ∙ length-set c.args.self.now.marks c.slot_of-slot.result c.mark_of-mark.result

pub returns-clause-room : goal.returns-clause-room
returns-clause-room c = λ hash.
    subst (λ (m : Mark). room_at c.args.self.now.lists hash ≤ room_at c.set.new.self.lists hash + one_if (m.hash == hash)) (c.mark_of-mark.ensures ∙ ap (λ (i : Indexed). mark_of i.key c.args.new.now) c.self.view_is)
    (c.set.ensures.room hash)
