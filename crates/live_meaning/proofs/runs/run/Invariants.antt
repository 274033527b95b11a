use Rattle.std.proofs.Common.{◌≡◌, ◌+◌, ◌≤◌, ◌++◌, length, Ok, vec_capacity, vec_len}
use Rattle.live_meaning.specs.Replies.{replies_of}
use Rattle.live_meaning.proofs.runs.run.Given as goal

abbrev pub invariant-loop-event : goal.invariant-loop-event
invariant-loop-event l = (l.fn.events.items ≡ l.yielded ++ l.event-iterator.rest.items) × (l.world ≡ l.initial.world ++ l.yielded) × (replies_of l.initial.world l.yielded ≡ Ok l.replies.items) × (vec_len l.replies + length l.event-iterator.rest.items ≤ vec_capacity l.replies)
