use Rattle.model_conf.proofs.LawLemmas.{faulty_text, settled_by_laws}
use Rattle.model_conf.proofs.laws.faulty_text_is_no_model.Goals as goal

pub returns : goal.returns
returns c = λ bytes. faulty_text bytes (settled_by_laws c.text_says_one_matcher.ensures c.text_has_one_fault.ensures c.faulty_text_is_no_matcher.ensures bytes)
