use Rattle.std.proofs.Common.{ap, ◌∙◌, sym}
use Rattle.std.specs.Option.{option_copied}
use Rattle.policy_index.proofs.ListLemmas.{found_slots, no_slots}
use Rattle.policy_index.specs.Lists.{Lists, slots_at}
use Rattle.policy_index.proofs.slots.Slots.of.Goals as goal

pub returns-in-Some : goal.returns-in-Some
returns-in-Some c =
    c.as_slice.ensures ∙ sym (found_slots c.self.inside.lists.entries c.args.hash c.in-Some.list.now (sym c.get.ensures.value ∙ ap option_copied c.in-Some.is)) ∙ ap (λ (l : Lists). slots_at l c.args.hash) c.self.view_is

pub returns-in-None : goal.returns-in-None
returns-in-None c = sym (no_slots c.self.inside.lists.entries c.args.hash (sym c.get.ensures.value ∙ ap option_copied c.in-None.is)) ∙ ap (λ (l : Lists). slots_at l c.args.hash) c.self.view_is
