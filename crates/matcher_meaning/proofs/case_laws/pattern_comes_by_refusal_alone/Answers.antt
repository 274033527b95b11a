use Rattle.std.proofs.Common.{Err, None}
use Rattle.matcher_meaning.specs.Cases.{where_refused}
use Rattle.matcher_meaning.proofs.CasePatternLemmas.{AsksUnread, comes_clear, truth_is_clear, unread_fault, unread_verdict}
use Rattle.matcher_meaning.proofs.case_laws.pattern_comes_by_refusal_alone.Goals as goal

pub returns-clause-value : goal.returns-clause-value
returns-clause-value c case e failed p pattern = unread_fault (AsksUnread (where_refused case None) e) failed (comes_clear case e (Err failed) p) pattern

pub returns-clause-truth : goal.returns-clause-truth
returns-clause-truth c case e failed p pattern = unread_fault (AsksUnread (where_refused case None) e) failed (truth_is_clear case e (Err failed) p) pattern

pub returns-clause-verdict : goal.returns-clause-verdict
returns-clause-verdict c = unread_verdict
