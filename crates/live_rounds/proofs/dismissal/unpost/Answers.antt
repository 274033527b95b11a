use Rattle.std.proofs.Common.{◌≡◌, ◌∷◌, ◌++◌, [], ap, append_assoc, arith, length, refl, rules, sym, ◌∙◌}
use Rattle.std.proofs.lemmas.Grind.{common_steps}
use Rattle.live_rounds.proofs.PostLemmas.{map_done, pushed_map, whole_done, whole_more}
use Rattle.live_rounds.specs.Helps.Posts.{kept_at}
use Rattle.live_rounds.proofs.dismissal.unpost.Goals as goal

-- a post more: its seat, its finder and what is kept of its replies stand behind the others
pub loop-post-preserved : goal.loop-post-preserved
loop-post-preserved g c =
    let inv = c.loop-post.invariant in
    let post = c.in-Some.post in
    let next = c.next.new.self.rest.items in
    let done = c.loop-post.yielded in
    let rest : c.loop-post.post-iterator.rest.items ≡ post ∷ next = search rules in (
      inv.0 ∙ ap (λ l. done ++ l) rest ∙ sym (append_assoc done (post ∷ []) next),
      pushed_map (λ p. p.seat) c.args.seats.now.items c.loop-post.seats.items c.push_reserved-in-loop-post.new.self.items done post post.seat inv.1 c.push_reserved-in-loop-post.ensures.items refl,
      pushed_map (λ p. p.finder) c.args.finders.now.items c.loop-post.finders.items c.push_reserved-in-loop-post-2.new.self.items done post post.finder inv.2 c.push_reserved-in-loop-post-2.ensures.items refl,
      pushed_map (λ p. kept_at c.args.version p.seat p.replies) c.args.kept.now.items c.loop-post.kept.items c.push_reserved.new.self.items done post c.kept_of.result inv.3 c.push_reserved.ensures.items c.kept_of.ensures,
      whole_more (λ p. p.ran_out) done post c.loop-post.whole c.is_whole-whole.result inv.4 c.is_whole-whole.ensures,
      omega (arith, ap length rest, inv.5, c.push_reserved-in-loop-post.ensures.len, c.push_reserved-in-loop-post.ensures.capacity),
      omega (arith, ap length rest, inv.6, c.push_reserved-in-loop-post-2.ensures.len, c.push_reserved-in-loop-post-2.ensures.capacity),
      omega (arith, ap length rest, inv.7, c.push_reserved.ensures.len, c.push_reserved.ensures.capacity),
      c.push_reserved-in-loop-post.ensures.capacity ∙ inv.8,
      c.push_reserved-in-loop-post-2.ensures.capacity ∙ inv.9,
    )

-- none is left
pub returns-clause-seats : goal.returns-clause-seats
returns-clause-seats g c =
    let none : c.loop-post.post-iterator.rest.items ≡ [] = grind (arith, common_steps) in
    map_done (λ p. p.seat) c.args.seats.now.items c.loop-post.seats.items c.args.posts.items c.loop-post.yielded c.loop-post.post-iterator.rest.items c.loop-post.invariant.1 c.loop-post.invariant.0 none

pub returns-clause-finders : goal.returns-clause-finders
returns-clause-finders g c =
    let none : c.loop-post.post-iterator.rest.items ≡ [] = grind (arith, common_steps) in
    map_done (λ p. p.finder) c.args.finders.now.items c.loop-post.finders.items c.args.posts.items c.loop-post.yielded c.loop-post.post-iterator.rest.items c.loop-post.invariant.2 c.loop-post.invariant.0 none

pub returns-clause-kept : goal.returns-clause-kept
returns-clause-kept g c =
    let none : c.loop-post.post-iterator.rest.items ≡ [] = grind (arith, common_steps) in
    map_done _ _ _ c.args.posts.items c.loop-post.yielded c.loop-post.post-iterator.rest.items c.loop-post.invariant.3 c.loop-post.invariant.0 none

pub returns-clause-whole : goal.returns-clause-whole
returns-clause-whole g c =
    let none : c.loop-post.post-iterator.rest.items ≡ [] = grind (arith, common_steps) in
    whole_done (λ p. p.ran_out) c.args.posts.items c.loop-post.yielded c.loop-post.post-iterator.rest.items c.loop-post.whole c.loop-post.invariant.4 c.loop-post.invariant.0 none
