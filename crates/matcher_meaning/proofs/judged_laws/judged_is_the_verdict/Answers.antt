use Rattle.std.proofs.Common.{[]}
use Rattle.std.specs.List.{Contains}
use Rattle.role_meaning.proofs.CallerLemmas.{stands_nowhere}
use Rattle.matcher_meaning.proofs.JudgedLemmas.{judged_by_fewer, judged_by_none, judged_unless_refused}
use Rattle.matcher_meaning.proofs.judged_laws.judged_is_the_verdict.Goals as goal

pub returns-clause-unless_refused : goal.returns-clause-unless_refused
returns-clause-unless_refused c model shapes policy request bad v = judged_unless_refused model shapes policy request (Contains bad) v

pub returns-clause-none_bad : goal.returns-clause-none_bad
returns-clause-none_bad c model shapes policy request v = judged_by_none model shapes policy request (Contains []) v stands_nowhere

pub returns-clause-more_bad : goal.returns-clause-more_bad
returns-clause-more_bad c model shapes policy request bad worse v = judged_by_fewer model shapes policy request (Contains bad) (Contains worse) v
