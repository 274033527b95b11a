use Rattle.std.proofs.Common.{◌≡◌, ◌<◌, length, slice_get, subst, sym, ◌∙◌}
use Rattle.policy_table.specs.Helps.Rows.{Rows}
use Rattle.policy_table.proofs.SlotLemmas.{has_slot_at, slot_shows, slot_within}
use Rattle.policy_table.proofs.table.Table.slot_at.Goals as goal

pub unreachable-requires : goal.unreachable-requires
unreachable-requires c =
    has_slot_at c.self.inside.by_slot.keys c.self.inside.order.ids c.self.invariant c.args.at (subst (λ (t : Rows). c.args.at < length t.rules) (sym c.self.view_is) c.requires) (sym c.at.ensures ∙ c.in_default.is)

pub returns-clause-within : goal.returns-clause-within
returns-clause-within c =
    subst (λ (t : Rows). c.in-Some.slot < length t.slots) c.self.view_is (slot_within c.self.inside.by_slot.keys c.self.inside.order.ids c.self.invariant c.args.at c.in-Some.slot (sym c.at.ensures ∙ c.in-Some.is))

pub returns-clause-same : goal.returns-clause-same
returns-clause-same c =
    subst (λ (t : Rows). slice_get t.slots c.in-Some.slot ≡ slice_get t.rules c.args.at) c.self.view_is
    (slot_shows c.self.inside.by_slot.keys c.self.inside.order.ids c.self.invariant c.args.at c.in-Some.slot (sym c.at.ensures ∙ c.in-Some.is))
