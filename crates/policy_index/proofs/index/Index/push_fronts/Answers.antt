use Rattle.std.proofs.Common.{◌&&◌, ◌∙◌, subst, sym}
use Rattle.policy_index.specs.Helps.FoundSlots.{AddsMarks}
use Rattle.policy_index.specs.Helps.Kept.{has_front, has_hash}
use Rattle.policy_index.specs.Indexed.{Indexed}
use Rattle.policy_index.specs.declared.mark.Mark.{Mark}
use Rattle.policy_index.proofs.FindLemmas.{adds_none, ok_fronts}
use Rattle.policy_index.proofs.FoundLemmas.{none_front}
use Rattle.policy_index.proofs.index.Index.push_fronts.Goals as goal

pub returns-then-not-has : goal.returns-then-not-has
returns-then-not-has c =
    subst (λ (i : Indexed). AddsMarks (λ (mark : Mark). has_front c.args.size mark && has_hash c.args.hash mark) i.marks c.args.slots.now.items c.args.slots.now.items) c.self.view_is
    (adds_none (λ (mark : Mark). has_front c.args.size mark && has_hash c.args.hash mark) c.self.inside.marks.items c.args.slots.now.items
    (none_front c.self.inside.marks.items c.self.inside.fronts c.args.size c.args.hash c.self.invariant.counted (sym c.has.ensures ∙ c.if-not-has.true)))

pub returns : goal.returns
returns c = ok_fronts c.args.size c.args.hash c.args.self.now.marks c.args.slots.now.items c.push_slots.new.slots.items c.push_slots.result c.push_slots.ensures
