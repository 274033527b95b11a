use Rattle.matcher_meaning.proofs.PlaceLemmas.{eval_from_rule, placed_at, placed_eval, placed_nodes, rule_from_eval}
use Rattle.matcher_meaning.proofs.eval_laws.eval_comes_to_its_rule.Goals as goal

pub returns-clause-of_rule : goal.returns-clause-of_rule
returns-clause-of_rule c = eval_from_rule

pub returns-clause-rule_of : goal.returns-clause-rule_of
returns-clause-rule_of c = rule_from_eval c.text_says_one_rule.ensures

pub returns-clause-place : goal.returns-clause-place
returns-clause-place c = placed_at

pub returns-clause-nodes : goal.returns-clause-nodes
returns-clause-nodes c = placed_nodes

pub returns-clause-evals : goal.returns-clause-evals
returns-clause-evals c = placed_eval
