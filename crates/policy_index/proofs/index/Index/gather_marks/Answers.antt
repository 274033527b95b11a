use Rattle.std.proofs.Common.{◌∙◌, OnOk, ap, sym, subst}
use Rattle.policy_index.specs.Helps.FoundSlots.{AddsMarks, is_sought}
use Rattle.policy_index.specs.Indexed.{Indexed}
use Rattle.policy_index.proofs.index.Index.gather_marks.Goals as goal

pub returns-in-Some : goal.returns-in-Some
returns-in-Some c = subst (λ p. OnOk c.gather_fitting.result (AddsMarks (is_sought p c.args.hash c.args.asked.now) c.args.self.now.marks c.args.slots.now.items c.gather_fitting.new.slots.items)) (sym c.in-Some.is ∙ c.pattern.ensures ∙ ap (λ (i : Indexed). i.key.pattern) c.self.view_is) c.gather_fitting.ensures

pub returns-in-None : goal.returns-in-None
returns-in-None c = subst (λ p. OnOk c.push_slots.result (AddsMarks (is_sought p c.args.hash c.args.asked.now) c.args.self.now.marks c.args.slots.now.items c.push_slots.new.slots.items)) (sym c.in-None.is ∙ c.pattern.ensures ∙ ap (λ (i : Indexed). i.key.pattern) c.self.view_is) c.push_slots.ensures
