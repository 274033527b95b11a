use Rattle.std.proofs.Common.{◌≡◌, ◌≤◌, ◌∷◌, ◌++◌, [], ℕ, ap, arith, inl, inr, length, map, subst, sym, ◌∙◌}
use Rattle.std.proofs.lemmas.Grind.{common_steps}
use Rattle.live_rounds.proofs.PostLemmas.{left_over, manned_more, manned_none}
use Rattle.live_rounds.proofs.crew.manned.Goals as goal

pub loop-part-init : goal.loop-part-init
loop-part-init g c = (manned_none _ _ c.args.seats.now.rest.items c.args.finders.now.rest.items c.args.room.items c.requires.none, c.requires.room)

pub loop-part-preserved : goal.loop-part-preserved
loop-part-preserved g c = (
  manned_more _ _ c.args.seats.now.rest.items c.args.finders.now.rest.items c.loop-part._part-index c.loop-part.seats.rest.items c.next.new.self.rest.items c.loop-part.finders.rest.items c.next_of-finder.new.values.rest.items
      c.loop-part.posts.items c.push_reserved.new.self.items c.new.result c.loop-part.invariant.0 (c.in-Some.ensures.cases.0 ∙ ap (λ seat. seat ∷ c.next.new.self.rest.items) (sym c.new.ensures.seat)) (c.next_of-finder.ensures ∙ ap (λ finder. finder ∷ c.next_of-finder.new.values.rest.items) (sym c.new.ensures.finder))
      c.push_reserved.ensures.items,
  subst (λ (n : ℕ). length c.args.parts.now ≤ n) (sym c.push_reserved.ensures.capacity) c.loop-part.invariant.1,
)

-- a finder is left, and there is room for its post
pub next_of-finder-requires : goal.next_of-finder-requires
next_of-finder-requires g c =
    left_over (λ p. p.finder) c.loop-part.posts.items c.loop-part.finders.rest.items c.args.finders.now.rest.items c.loop-part._part-index (length c.args.parts.now) c.loop-part.invariant.0.finders_are c.loop-part.invariant.0.long c.loop-part-test.true c.requires.enough

pub push_reserved-requires : goal.push_reserved-requires
push_reserved-requires g c = omega (arith, c.loop-part.invariant.1, c.loop-part.invariant.0.long, c.loop-part-test.true, c.loop-part.posts.ok.0)

-- no seat is left
pub returns-in_default-clause-seats : goal.returns-in_default-clause-seats
returns-in_default-clause-seats g c =
    let none : c.loop-part.seats.rest.items ≡ [] = grind (arith, common_steps) in
    let left : c.next.new.self.rest.items ≡ [] = grind (arith, common_steps) in
    c.loop-part.invariant.0.seats_are ∙ ap (λ l. map (λ p. p.seat) c.loop-part.posts.items ++ l) (none ∙ sym left)

pub returns-in_default-clause-finders : goal.returns-in_default-clause-finders
returns-in_default-clause-finders g c = c.loop-part.invariant.0.finders_are

pub returns-in_default-clause-all : goal.returns-in_default-clause-all
returns-in_default-clause-all g c =
    let left : c.next.new.self.rest.items ≡ [] = grind (arith, common_steps) in
    inr left

pub returns-in_default-clause-few : goal.returns-in_default-clause-few
returns-in_default-clause-few g c = omega (arith, c.loop-part.invariant.0.long, c.loop-part-test.true)

-- all parts have a post
pub returns-clause-seats : goal.returns-clause-seats
returns-clause-seats g c = c.loop-part.invariant.0.seats_are

pub returns-clause-finders : goal.returns-clause-finders
returns-clause-finders g c = c.loop-part.invariant.0.finders_are

pub returns-clause-all : goal.returns-clause-all
returns-clause-all g c = inl (omega (arith, c.loop-part.invariant.0.long, c.loop-part-test.false, c.loop-part.auto._part-index-end))

pub returns-clause-few : goal.returns-clause-few
returns-clause-few g c = omega (arith, c.loop-part.invariant.0.long, c.loop-part.auto._part-index-end)
