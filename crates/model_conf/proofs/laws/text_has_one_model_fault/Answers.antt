use Rattle.model_conf.proofs.LawLemmas.{IsModelFault-once, settled_by_laws}
use Rattle.model_conf.proofs.laws.text_has_one_model_fault.Goals as goal

pub returns : goal.returns
returns c = λ bytes. IsModelFault-once bytes (settled_by_laws c.text_says_one_matcher.ensures c.text_has_one_fault.ensures c.faulty_text_is_no_matcher.ensures bytes)
