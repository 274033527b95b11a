use Rattle.std.proofs.Common.{◌+◌, length, ◌∙◌}
use Rattle.live_pair.proofs.CallerLemmas.{edits_begin, edits_both, prefix_whole, version_stands}
use Rattle.live_pair.specs.Story.{edits_in}
use Rattle.live_pair.proofs.laws.fronts_begin_each_other.Goals as goal

pub returns-clause-both : goal.returns-clause-both
returns-clause-both c = edits_both

pub returns-clause-begin : goal.returns-clause-begin
returns-clause-begin c = edits_begin

pub returns-clause-whole : goal.returns-clause-whole
returns-clause-whole c = prefix_whole

pub returns-clause-version : goal.returns-clause-version
returns-clause-version c = λ state other opening front stands start tail. (λ j. start j + length (tail j)) ∙ version_stands state.log (edits_in front) stands.log
