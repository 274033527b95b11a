use Rattle.matcher_meaning.proofs.PlainLemmas.{without_searches}
use Rattle.matcher_meaning.proofs.eval_laws.only_searches_are_refused.Goals as goal

pub returns : goal.returns
returns c case e refused other r none p = without_searches case refused other e none r p
