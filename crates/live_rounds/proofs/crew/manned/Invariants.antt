use Rattle.std.proofs.Common.{◌≤◌, length, vec_capacity}
use Rattle.live_rounds.proofs.PostLemmas.{IsManned}
use Rattle.live_rounds.proofs.crew.manned.Given as goal

abbrev pub invariant-loop-part : goal.invariant-loop-part
invariant-loop-part g l =
    IsManned (λ p. p.seat) (λ p. p.finder) l.initial.seats.rest.items l.initial.finders.rest.items l._part-index l.seats.rest.items l.finders.rest.items l.posts.items
    × (length l.parts ≤ vec_capacity l.posts)
