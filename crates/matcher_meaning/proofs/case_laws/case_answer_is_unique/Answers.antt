use Rattle.matcher_meaning.proofs.ComesLemmas.{one_comes, one_truth_is}
use Rattle.matcher_meaning.proofs.case_laws.case_answer_is_unique.Goals as goal

pub returns-clause-value : goal.returns-clause-value
returns-clause-value c = one_comes (record { longer = c.named_part_is_one.ensures.longer_unique; shorter = c.named_part_is_one.ensures.shorter_unique; address = c.address_is_unique.ensures; block = c.block_is_unique.ensures }) c.text_says_one_rule.ensures

pub returns-clause-truth : goal.returns-clause-truth
returns-clause-truth c = one_truth_is (record { longer = c.named_part_is_one.ensures.longer_unique; shorter = c.named_part_is_one.ensures.shorter_unique; address = c.address_is_unique.ensures; block = c.block_is_unique.ensures }) c.text_says_one_rule.ensures
