use Rattle.std.proofs.Common.{◌∷◌, ◌++◌, [], ap, arith, length, sym, vec_capacity, ◌∙◌}
use Rattle.live_rounds.proofs.PostLemmas.{all_fit, first_apart, first_fits}
use Rattle.live_rounds.proofs.crew.muster.Goals as goal

-- what the steps want
pub next_of-first-requires : goal.next_of-first-requires
next_of-first-requires g c =
    omega (arith, ap length c.into_iter-left_finders.ensures.rest, ap (λ finders. length finders.items) c.replace-all_finders.ensures.value, c.requires.enough)

pub push_reserved-requires : goal.push_reserved-requires
push_reserved-requires g c =
    omega (
      arith,
      ap length c.into_iter-left_finders.ensures.rest,
      ap (λ finders. length finders.items) c.replace-all_finders.ensures.value,
      c.requires.enough,
      c.args.finders.now.ok.0,
      c.len-2.ensures,
      c.in_ok-finder_room.ensures.capacity,
      c.in_ok-finder_room.ensures.len,
      ap (λ finders. vec_capacity finders) c.replace-all_finders.ensures.after,
      ap (λ finders. length finders.items) c.replace-all_finders.ensures.after,
      c.replace-all_finders.new.dest.ok.0,
      c.in_ok-finder_room.finder_room.ok.0,
    )

pub manned-posts-requires-clause-room : goal.manned-posts-requires-clause-room
manned-posts-requires-clause-room g c = omega (arith, c.in_ok-room.ensures.capacity)

pub manned-posts-requires-clause-enough : goal.manned-posts-requires-clause-enough
manned-posts-requires-clause-enough g c =
    omega (arith, ap length c.into_iter-left_finders.ensures.rest, ap (λ finders. length finders.items) c.replace-all_finders.ensures.value, ap length c.next_of-first.ensures, c.requires.enough)

-- the seats, one behind the other
pub returns-clause-seats : goal.returns-clause-seats
returns-clause-seats g c = sym (c.into_iter-left_seats.ensures.rest ∙ ap (λ seats. seats.items) c.replace-all_seats.ensures.value) ∙ c.manned-posts.ensures.seats

pub returns-clause-taken : goal.returns-clause-taken
returns-clause-taken g c = ap (λ seats. seats.items) c.replace-all_seats.ensures.after ∙ c.in_ok-seat_room.ensures.items

pub returns-clause-seat_room : goal.returns-clause-seat_room
returns-clause-seat_room g c =
    let all = sym (c.into_iter-left_seats.ensures.rest ∙ ap (λ seats. seats.items) c.replace-all_seats.ensures.value) ∙ c.manned-posts.ensures.seats in
    all_fit (λ p. p.seat) c.manned-posts.result.items c.manned-posts.new.seats.rest.items c.args.seats.now.items c.len.result _ all (c.len.ensures ∙ c.args.seats.now.ok.0)
    (omega (arith, c.in_ok-seat_room.ensures.capacity, ap (λ seats. vec_capacity seats) c.replace-all_seats.ensures.after))

-- the finders, of which the first stays
pub returns-clause-first : goal.returns-clause-first
returns-clause-first g c =
    ap length (c.push_reserved.ensures.items ∙ ap (λ l. l ++ c.next_of-first.result ∷ []) (ap (λ finders. finders.items) c.replace-all_finders.ensures.after ∙ c.in_ok-finder_room.ensures.items))

pub returns-clause-finders : goal.returns-clause-finders
returns-clause-finders g c =
    first_apart c.args.finders.now.items c.push_reserved.new.self.items c.next_of-first.new.values.rest.items _ c.next_of-first.result
    (sym (c.into_iter-left_finders.ensures.rest ∙ ap (λ finders. finders.items) c.replace-all_finders.ensures.value) ∙ c.next_of-first.ensures)
    (c.push_reserved.ensures.items ∙ ap (λ l. l ++ c.next_of-first.result ∷ []) (ap (λ finders. finders.items) c.replace-all_finders.ensures.after ∙ c.in_ok-finder_room.ensures.items))
    c.manned-posts.ensures.finders

pub returns-clause-finder_room : goal.returns-clause-finder_room
returns-clause-finder_room g c =
    let all = sym (c.into_iter-left_finders.ensures.rest ∙ ap (λ finders. finders.items) c.replace-all_finders.ensures.value) ∙ c.next_of-first.ensures ∙ ap (λ l. c.next_of-first.result ∷ l) c.manned-posts.ensures.finders in
    first_fits (λ p. p.finder) c.manned-posts.result.items c.next_of-first.result c.manned-posts.new.finders.rest.items c.args.finders.now.items c.len-2.result _ all (c.len-2.ensures ∙ c.args.finders.now.ok.0)
    (omega (arith, c.in_ok-finder_room.ensures.capacity, ap (λ finders. vec_capacity finders) c.replace-all_finders.ensures.after, c.push_reserved.ensures.capacity))
