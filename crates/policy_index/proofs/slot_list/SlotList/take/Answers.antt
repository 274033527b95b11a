use Rattle.std.proofs.Common.{◌-◌, ◌∙◌, ap, arith, get_or, length, List, ℕ}
use Rattle.std.specs.List.{swap_remove}
use Rattle.indexmap.proofs.MapLemmas.{swap_remove-default}
use Rattle.policy_index.specs.Lists.{Listed}
use Rattle.policy_index.proofs.slot_list.SlotList.take.Goals as goal

pub last_of-last-requires : goal.last_of-last-requires
last_of-last-requires c = omega (arith, c.requires, ap (λ (l : Listed). length l.slots) c.self.view_is, ap (λ (l : List ℕ). length l) c.as_slice.ensures)

pub swap_remove-gone-requires : goal.swap_remove-gone-requires
swap_remove-gone-requires c = omega (arith, c.requires, ap (λ (l : Listed). length l.slots) c.self.view_is)

pub returns-clause-slots : goal.returns-clause-slots
returns-clause-slots c =
    c.swap_remove-gone.ensures.items
    ∙ swap_remove-default c.self.inside.slots.items c.args.at c.swap_remove-gone.result 0 (omega (arith, c.requires, ap (λ (l : Listed). length l.slots) c.self.view_is))
    ∙ ap (λ (l : Listed). swap_remove l.slots c.args.at 0) c.self.view_is

pub returns-clause-last : goal.returns-clause-last
returns-clause-last c =
    c.last_of-last.ensures ∙ ap (λ (l : List ℕ). get_or l (length l - 1) 0) c.as_slice.ensures ∙ ap (λ (l : Listed). get_or l.slots (length l.slots - 1) 0) c.self.view_is

pub returns-clause-room : goal.returns-clause-room
returns-clause-room c = omega (arith, ap (λ (l : Listed). l.room) c.self.view_is, c.len-held.ensures.value, c.len-held.ensures.fits, c.swap_remove-gone.ensures.len, c.swap_remove-gone.ensures.capacity)
