-- What the reader of rule texts tests of a matcher, and tells; only private clauses cite this.
use Rattle.std.specs.Prelude.{◌&&◌, Bool, not, is_none}
use Rattle.matcher_read.specs.Expression.{Expression}
use Rattle.matcher_read.specs.declared.fault.MatcherFault.{MatcherFault}
use Rattle.matcher_read.specs.declared.fault.MatcherFault.TheVariants as m
use Rattle.model_conf.specs.ModelText.{ModelParts}
use Rattle.model_conf.specs.RuleText.{has_eval}
use Rattle.model_conf.specs.Uses.{uses, first_undeclared}
use Rattle.model_conf.specs.declared.rule_text.RuleTextFault.{RuleTextFault}
use Rattle.model_conf.specs.declared.rule_text.RuleTextFault.TheVariants.{NoRule, NoMemory}

-- the expression has no `eval`, and what it names is declared so
abbrev pub is_rule : ModelParts → Expression → Bool
is_rule model e = not (has_eval e) && is_none (first_undeclared model.request model.policy model.relations (uses e))

-- a text that is no matcher is no rule
abbrev pub fault_of_matcher : MatcherFault → RuleTextFault
fault_of_matcher m.NoMemory = NoMemory
fault_of_matcher stop = NoRule
