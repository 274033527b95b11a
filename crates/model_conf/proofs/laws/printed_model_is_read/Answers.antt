use Rattle.model_conf.proofs.ReadBackLemmas.{printed_is_model}
use Rattle.model_conf.proofs.laws.printed_model_is_read.Goals as goal

pub returns : goal.returns
returns c = printed_is_model
