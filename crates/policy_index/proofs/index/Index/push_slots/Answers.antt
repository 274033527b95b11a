use Rattle.std.proofs.Common.{OnOk, subst}
use Rattle.policy_index.specs.Helps.FoundSlots.{AddsMarks}
use Rattle.policy_index.specs.Helps.Kept.{has_hash}
use Rattle.policy_index.specs.Indexed.{Indexed}
use Rattle.policy_index.proofs.FoundLemmas.{adds_listed}
use Rattle.policy_index.proofs.index.Index.push_slots.Goals as goal

pub returns : goal.returns
returns c =
    subst (λ (i : Indexed). OnOk c.push_all.result (AddsMarks (has_hash c.args.hash) i.marks c.args.slots.now.items c.push_all.new.slots.items)) c.self.view_is
    (adds_listed c.self.inside.marks.items c.self.inside.slots c.args.hash c.of.result.now c.args.slots.now.items c.push_all.new.slots.items c.push_all.result c.self.invariant.listed c.of.ensures c.push_all.ensures)
