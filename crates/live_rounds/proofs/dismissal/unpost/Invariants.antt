use Rattle.std.proofs.Common.{◌≡◌, ◌+◌, ◌≤◌, ◌++◌, IsTrue, false, length, map, vec_capacity, vec_len}
use Rattle.std.specs.List.{AllByRecursion}
use Rattle.live_rounds.specs.Helps.Posts.{kept_at}
use Rattle.live_rounds.proofs.dismissal.unpost.Given as goal

-- the posts so far are taken apart, and there is room for the others
abbrev pub invariant-loop-post : goal.invariant-loop-post
invariant-loop-post g l =
    (l.fn.posts.items ≡ l.yielded ++ l.post-iterator.rest.items)
    × (l.seats.items ≡ l.initial.seats.items ++ map (λ p. p.seat) l.yielded)
    × (l.finders.items ≡ l.initial.finders.items ++ map (λ p. p.finder) l.yielded)
    × (l.kept.items ≡ l.initial.kept.items ++ map (λ p. kept_at l.version p.seat p.replies) l.yielded)
    × (IsTrue l.whole → AllByRecursion (λ p. p.ran_out ≡ false) l.yielded)
    × (vec_len l.seats + length l.post-iterator.rest.items ≤ vec_capacity l.seats)
    × (vec_len l.finders + length l.post-iterator.rest.items ≤ vec_capacity l.finders)
    × (vec_len l.kept + length l.post-iterator.rest.items ≤ vec_capacity l.kept)
    × (vec_capacity l.seats ≡ vec_capacity l.initial.seats)
    × (vec_capacity l.finders ≡ vec_capacity l.initial.finders)
