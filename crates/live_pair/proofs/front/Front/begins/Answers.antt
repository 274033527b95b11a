use Rattle.live_pair.proofs.FrontLemmas.{match_more}
use Rattle.live_pair.proofs.StoryLemmas.{publishes_grow}
use Rattle.live_pair.proofs.front.Front.begins.Goals as goal

pub returns : goal.returns
returns g c =
    let a = c.self.inside.told in
    let b = c.other.inside.told in
    let first = g.J.Naming.first in
    record {
      begins = rw (← c.self.view_is, ← c.other.view_is) (match_more c.begins.result _ _ _ _ (λ p. publishes_grow first a b p) (λ p. publishes_grow first b a p) c.begins.ensures);
    }
