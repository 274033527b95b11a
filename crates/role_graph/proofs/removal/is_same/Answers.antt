use Rattle.role_meaning.proofs.CallerLemmas.{they_agree}
use Rattle.role_graph.proofs.removal.is_same.Goals as goal

pub returns : goal.returns
returns c = λ holds. they_agree c.args.one.now c.args.other.now c.eq.result c.eq.ensures holds
