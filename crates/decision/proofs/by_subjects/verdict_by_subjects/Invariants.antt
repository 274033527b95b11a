use Rattle.std.proofs.Common.{All, IfSome, length}
use Rattle.regex_gate.specs.Refusals.{IsRefused, IsUsed}
use Rattle.decision.specs.Helps.Asked.{case_in}
use Rattle.decision.specs.Helps.Firsts.{IsKnownIn}
use Rattle.decision.proofs.FirstLemmas.{IsSought}
use Rattle.decision.proofs.by_subjects.verdict_by_subjects.Given as goal

abbrev pub invariant-loop-number : goal.invariant-loop-number
invariant-loop-number g l = record {
  sought : IsSought (case_in l.asking) (λ refused. IfSome refused (IsRefused (g.P.Finder.refusals l.initial.finder) (g.P.Finder.refusals l.finder))) l.initial.candidates l.candidates l.first;
  known : All (λ one. IfSome one (IsKnownIn (case_in l.asking))) l.depths;
  used : IsUsed (g.P.Finder.refusals l.initial.finder) (g.P.Finder.refusals l.finder);
}

abbrev pub decreases-loop-number : goal.decreases-loop-number
decreases-loop-number g l = length l.candidates
