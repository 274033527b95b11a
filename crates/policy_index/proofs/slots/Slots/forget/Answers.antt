use Rattle.std.proofs.Common.{ap, ◌∙◌, sym}
use Rattle.std.specs.Option.{option_copied}
use Rattle.policy_index.proofs.slots.Slots.forget.Goals as goal
use Rattle.policy_index.proofs.ListLemmas.{forgot_now, forgot_room, forgot_slots, there_now}

-- `updates` of `swap_remove` says of every key what is found afterwards
pub returns-then-is_empty-clause-slots : goal.returns-then-is_empty-clause-slots
returns-then-is_empty-clause-slots c = λ other.
    forgot_slots c.args.self.now _ c.args.hash c.in-Some.list.now other (there_now c.self.inside.lists.entries c.args.self.now c.args.hash _ c.self.view_is (sym c.get.ensures.value ∙ ap option_copied c.in-Some.is)) (sym c.is_empty.ensures ∙ c.if-is_empty.true) (forgot_now c.self.inside.lists.entries c.args.self.now _ c.args.hash other c.self.view_is (c.swap_remove-gone.ensures.updates.0 other))

pub returns-then-is_empty-clause-room : goal.returns-then-is_empty-clause-room
returns-then-is_empty-clause-room c = λ other differs. forgot_room c.args.self.now _ c.args.hash other differs (forgot_now c.self.inside.lists.entries c.args.self.now _ c.args.hash other c.self.view_is (c.swap_remove-gone.ensures.updates.0 other))
