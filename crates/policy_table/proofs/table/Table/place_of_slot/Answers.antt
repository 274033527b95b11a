use Rattle.std.proofs.Common.{◌≡◌, ◌<◌, length, slice_get, subst, sym, ◌∙◌}
use Rattle.policy_table.specs.Helps.Rows.{Rows}
use Rattle.policy_table.proofs.SlotLemmas.{place_shows, place_within, slot_has_place}
use Rattle.policy_table.proofs.table.Table.place_of_slot.Goals as goal

pub unreachable-requires : goal.unreachable-requires
unreachable-requires c =
    slot_has_place c.self.inside.by_slot.keys c.self.inside.order.ids c.self.invariant c.args.slot (subst (λ (t : Rows). c.args.slot < length t.slots) (sym c.self.view_is) c.requires) (sym c.number_of.ensures ∙ c.in_default.is)

pub returns-clause-within : goal.returns-clause-within
returns-clause-within c =
    subst (λ (t : Rows). c.in-Some.place < length t.rules) c.self.view_is (place_within c.self.inside.by_slot.keys c.self.inside.order.ids c.self.invariant c.args.slot c.in-Some.place (sym c.number_of.ensures ∙ c.in-Some.is))

pub returns-clause-same : goal.returns-clause-same
returns-clause-same c =
    subst (λ (t : Rows). slice_get t.rules c.in-Some.place ≡ slice_get t.slots c.args.slot) c.self.view_is
    (place_shows c.self.inside.by_slot.keys c.self.inside.order.ids c.self.invariant c.args.slot c.in-Some.place (subst (λ (t : Rows). c.args.slot < length t.slots) (sym c.self.view_is) c.requires) (sym c.number_of.ensures ∙ c.in-Some.is))
