use Rattle.std.proofs.Common.{ap}
use Rattle.std.proofs.lemmas.Result.{err_from_is_err_and}
use Rattle.model_conf.specs.Helps.RuleTexts.{fault_of_matcher}
use Rattle.model_conf.proofs.RuleLemmas.{no_memory_of, passes}
use Rattle.model_conf.proofs.rule_text.read_rule_text.Goals as goal

pub returns-in_err-tree-clause-only : goal.returns-in_err-tree-clause-only
returns-in_err-tree-clause-only c = λ e is.
    let p = err_from_is_err_and c.from_residual.result c.from_residual.ensures.1 in
    rw (p.1, p.2) (ap fault_of_matcher (c.in_err-tree.ensures.only e is.matcher))

pub returns-in_err-tree-clause-no_rule : goal.returns-in_err-tree-clause-no_rule
returns-in_err-tree-clause-no_rule c =
    let p = err_from_is_err_and c.from_residual.result c.from_residual.ensures.1 in
    rw (p.1, p.2) (λ told e is. no_memory_of c.in_err-tree.field-0.0 told (c.in_err-tree.ensures.only e is.matcher))

pub returns-then-not-is_rule-clause-only : goal.returns-then-not-is_rule-clause-only
returns-then-not-is_rule-clause-only c = λ e is.
    absurd (passes c.args.model.now c.args.text.now _ e c.is_rule.result c.is_rule.ensures c.if-not-is_rule.true (c.in_ok-tree.ensures.only e is.matcher) is)

pub returns-then-not-is_rule-clause-no_rule : goal.returns-then-not-is_rule-clause-no_rule
returns-then-not-is_rule-clause-no_rule c = λ told e is.
    passes c.args.model.now c.args.text.now _ e c.is_rule.result c.is_rule.ensures c.if-not-is_rule.true (c.in_ok-tree.ensures.only e is.matcher) is

pub returns-clause-only : goal.returns-clause-only
returns-clause-only c = λ e is. c.in_ok-tree.ensures.only e is.matcher
