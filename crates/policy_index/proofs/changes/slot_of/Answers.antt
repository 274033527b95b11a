use Rattle.std.proofs.Common.{◌∙◌, sym}
use Rattle.policy_index.proofs.FollowLemmas.{has_slot, slot_there}
use Rattle.policy_index.proofs.changes.slot_of.Goals as goal

pub unreachable-requires : goal.unreachable-requires
unreachable-requires c = has_slot c.args.rule.now _ (c.by_slot-by_slot.ensures.stand.all c.args.rule.now ∙ c.requires) (sym c.slot_of.ensures ∙ c.in_default.is)

pub returns-clause-within : goal.returns-clause-within
returns-clause-within c = slot_there c.args.rule.now _ c.in-Some.slot (sym c.in-Some.is ∙ c.slot_of.ensures)
