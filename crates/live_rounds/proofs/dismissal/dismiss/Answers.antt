use Rattle.std.proofs.Common.{◌++◌, ap, append_assoc, arith, length, length-append, map, ◌∙◌}
use Rattle.live_rounds.proofs.SharesLemmas.{map_long}
use Rattle.live_rounds.proofs.dismissal.dismiss.Goals as goal

-- those without a post stand behind the others
pub returns-clause-seats : goal.returns-clause-seats
returns-clause-seats g c = c.put_back.ensures.back ∙ ap (λ l. l ++ c.args.crew.seats.rest.items) c.unpost-whole.ensures.seats ∙ append_assoc c.args.seats.now.items (map (λ p. p.seat) c.args.crew.posts.items) c.args.crew.seats.rest.items

pub returns-clause-finders : goal.returns-clause-finders
returns-clause-finders g c = c.put_back-2.ensures.back ∙ ap (λ l. l ++ c.args.crew.finders.rest.items) c.unpost-whole.ensures.finders ∙ append_assoc c.args.finders.now.items (map (λ p. p.finder) c.args.crew.posts.items) c.args.crew.finders.rest.items

pub put_back-requires : goal.put_back-requires
put_back-requires g c =
    record { room = omega (arith, c.requires.seat_room, c.unpost-whole.ensures.seat_capacity, ap length c.unpost-whole.ensures.seats, length-append c.args.seats.now.items (map (λ p. p.seat) c.args.crew.posts.items), map_long (λ p. p.seat) c.args.crew.posts.items) }

pub put_back-requires-2 : goal.put_back-requires-2
put_back-requires-2 g c =
    record { room = omega (arith, c.requires.finder_room, c.unpost-whole.ensures.finder_capacity, ap length c.unpost-whole.ensures.finders, length-append c.args.finders.now.items (map (λ p. p.finder) c.args.crew.posts.items), map_long (λ p. p.finder) c.args.crew.posts.items) }
