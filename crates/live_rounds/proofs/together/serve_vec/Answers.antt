use Rattle.std.proofs.Common.{arith, subst, sym}
use Rattle.std.proofs.lemmas.List.{with_items_is}
use Rattle.live_rounds.specs.Helps.Posts.{AreServedPosts}
use Rattle.live_rounds.proofs.together.serve_vec.Goals as goal

-- the slice is all that the `Vec` holds
pub returns : goal.returns
returns g c =
    let served = subst (λ l. AreServedPosts g.P.Finder.refusals c.args.program.now g.J.Naming.shapes g.J.Naming.opening c.args.parts.now l c.serve_all.new.posts) c.as_mut_slice.ensures.value c.serve_all.ensures in
    subst (AreServedPosts g.P.Finder.refusals c.args.program.now g.J.Naming.shapes g.J.Naming.opening c.args.parts.now c.args.posts.now.items) (sym (with_items_is c.args.posts.now c.serve_all.new.posts (omega (arith, served.count, c.args.posts.now.ok.0)))) served
