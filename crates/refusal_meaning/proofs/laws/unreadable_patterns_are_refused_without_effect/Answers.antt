use Rattle.std.specs.List.{Contains}
use Rattle.refusal_meaning.proofs.UnreadLemmas.{comes_alike, judged_by_unread, truth_alike, verdict_alike}
use Rattle.refusal_meaning.proofs.laws.unreadable_patterns_are_refused_without_effect.Goals as goal

pub returns-clause-value : goal.returns-clause-value
returns-clause-value c case e at pattern r unread p = comes_alike case at pattern unread e r p

pub returns-clause-truth : goal.returns-clause-truth
returns-clause-truth c case e at pattern r unread p = truth_alike case at pattern unread e r p

pub returns-clause-verdict : goal.returns-clause-verdict
returns-clause-verdict c model shapes policy request refusal v unread p = verdict_alike refusal unread model shapes policy request v p

pub returns-clause-judged : goal.returns-clause-judged
returns-clause-judged c model shapes policy request refused v unread is = judged_by_unread model shapes policy request (Contains refused) v unread is
