use Rattle.model_conf.proofs.laws.text_says_one_rule.Goals as goal

pub returns : goal.returns
returns c = λ model bytes first second one two. c.text_says_one_matcher.ensures bytes first second one.matcher two.matcher
