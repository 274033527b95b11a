use Rattle.matcher_meaning.proofs.ComesLemmas.{some_comes, some_truth_is}
use Rattle.matcher_meaning.proofs.case_laws.case_answer_is_there.Goals as goal

pub returns-clause-value : goal.returns-clause-value
returns-clause-value c = some_comes (record { star = c.covering_is_decided.ensures.star; covers = c.covering_is_decided.ensures.covers; alike = c.covering_is_decided.ensures.alike; longer = c.named_part_is_one.ensures.longer_there; shorter = c.named_part_is_one.ensures.shorter_there; address = c.addresses_are_decided.ensures.address; block = c.addresses_are_decided.ensures.block; inside = c.addresses_are_decided.ensures.inside }) c.links_are_decided.ensures.reaches c.every_text_says_a_rule_or_none.ensures

pub returns-clause-truth : goal.returns-clause-truth
returns-clause-truth c = some_truth_is (record { star = c.covering_is_decided.ensures.star; covers = c.covering_is_decided.ensures.covers; alike = c.covering_is_decided.ensures.alike; longer = c.named_part_is_one.ensures.longer_there; shorter = c.named_part_is_one.ensures.shorter_there; address = c.addresses_are_decided.ensures.address; block = c.addresses_are_decided.ensures.block; inside = c.addresses_are_decided.ensures.inside }) c.links_are_decided.ensures.reaches c.every_text_says_a_rule_or_none.ensures
