use Rattle.model_conf.proofs.RuleLemmas.{rule_or_none}
use Rattle.model_conf.proofs.laws.every_text_says_a_rule_or_none.Goals as goal

pub returns : goal.returns
returns c = rule_or_none c.every_text_is_a_matcher_or_at_fault.ensures c.text_says_one_matcher.ensures c.faulty_text_is_no_matcher.ensures
