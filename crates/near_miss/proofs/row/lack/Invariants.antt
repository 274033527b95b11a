use Rattle.std.proofs.Common.{map}
use Rattle.perm_value.specs.Seen.{datum}
use Rattle.policy_state.specs.States.{tables}
use Rattle.regex_gate.specs.Refusals.{IsRefused, IsUsed}
use Rattle.near_miss.specs.Helps.Rows.{IsSeen}
use Rattle.near_miss.proofs.row.lack.Given as goal

abbrev pub invariant-loop-at : goal.invariant-loop-at
invariant-loop-at g l = record {
  seen : IsSeen l.asking.state.now.shapes (tables l.asking.state.now) (map datum l.asking.request.now) (IsRefused (g.P.Finder.refusals l.initial.finder) (g.P.Finder.refusals l.finder)) l.asking.parts.now l.row l.at l.standing;
  used : IsUsed (g.P.Finder.refusals l.initial.finder) (g.P.Finder.refusals l.finder);
}
