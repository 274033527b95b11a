use Rattle.std.proofs.Common.{◌≡◌, Some, None, position, ap, sym, ◌∙◌}
use Rattle.policy_table.specs.Helps.Rows.{Rows}
use Rattle.policy_table.specs.Tables.{same}
use Rattle.policy_table.proofs.SlotLemmas.{below, found_slot, no_place_of, place_of}
use Rattle.policy_table.proofs.table.Table.number_of.Goals as goal

pub returns-in-Some : goal.returns-in-Some
returns-in-Some c =
    let rule = c.args.rule.now in
    let keys = c.self.inside.by_slot.keys in
    let ids = c.self.inside.order.ids in
    let found : position (same rule) keys ≡ Some c.in-Some.slot = ap (λ (t : Rows). position (same rule) t.slots) c.self.view_is ∙ sym c.slot_of.ensures ∙ c.in-Some.is in
    c.number_of.ensures ∙ sym (place_of keys c.self.invariant.once rule c.in-Some.slot ids (found_slot rule c.in-Some.slot keys found) (below keys ids c.self.invariant))
    ∙ ap (λ (t : Rows). position (same rule) t.rules) c.self.view_is

pub returns-in-None : goal.returns-in-None
returns-in-None c =
    let rule = c.args.rule.now in
    let keys = c.self.inside.by_slot.keys in
    let ids = c.self.inside.order.ids in
    let none : position (same rule) keys ≡ None = ap (λ (t : Rows). position (same rule) t.slots) c.self.view_is ∙ sym c.slot_of.ensures ∙ c.in-None.is in
    sym (no_place_of keys ids c.self.invariant rule none) ∙ ap (λ (t : Rows). position (same rule) t.rules) c.self.view_is
