use Rattle.std.proofs.Common.{ℕ, subst}
use Rattle.policy_index.specs.Helps.FoundSlots.{AddsMarks}
use Rattle.policy_index.specs.Helps.Kept.{has_hash}
use Rattle.policy_index.proofs.FindLemmas.{ok_found}
use Rattle.policy_index.proofs.index.Index.gather_fitting.Goals as goal

pub returns : goal.returns
returns c =
    ok_found c.args.hash c.args.asked.now c.shortened.result.now c.args.self.now.marks c.args.slots.now.items c.push_slots.new.slots.items c.gather_fronts.new.slots.items c.gather_fronts.result c.shortened.ensures.value
    (subst (λ (h : ℕ). AddsMarks (has_hash h) c.args.self.now.marks c.args.slots.now.items c.push_slots.new.slots.items) c.hash_whole.ensures c.in_ok-push_slots.ensures) c.gather_fronts.ensures
