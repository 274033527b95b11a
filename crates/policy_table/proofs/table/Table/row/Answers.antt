use Rattle.std.proofs.Common.{◌<◌, ℕ, [], get_or, length, slice_get, ap, sym, subst, ◌∙◌}
use Rattle.std.proofs.lemmas.List.{length-map}
use Rattle.policy_table.specs.Helps.Orders.{in_order}
use Rattle.policy_table.specs.Helps.Rows.{Rows}
use Rattle.policy_table.proofs.SlotLemmas.{below}
use Rattle.policy_table.proofs.table.Table.row.Goals as goal

pub rule_at-requires-clause-below : goal.rule_at-requires-clause-below
rule_at-requires-clause-below c = rw c.as_slice.ensures.keys (below c.self.inside.by_slot.keys c.self.inside.order.ids c.self.invariant)

pub rule_at-requires-clause-within : goal.rule_at-requires-clause-within
rule_at-requires-clause-within c =
    subst (λ n. c.args.at < n) (length-map c.self.inside.order.ids (λ (id : ℕ). get_or c.self.inside.by_slot.keys id [])) (subst (λ (t : Rows). c.args.at < length t.rules) (sym c.self.view_is) c.requires)

pub returns : goal.returns
returns c =
    sym (ap (λ (t : Rows). slice_get t.rules c.args.at) c.self.view_is) ∙ sym (ap (λ l. slice_get (in_order l c.self.inside.order.ids) c.args.at) c.as_slice.ensures.keys) ∙ c.rule_at.ensures
