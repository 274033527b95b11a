use Rattle.std.proofs.Common.{◌≡◌, ◌+◌, ◌≤◌, length}
use Rattle.std.specs.Str.{IsUtf8}
use Rattle.policy_csv.proofs.PolicyLemmas.{whole}
use Rattle.policy_csv.proofs.ReadingLemmas.{reading}
use Rattle.policy_csv.specs.Helps.Filled.{IsFilled, ranked_if}
use Rattle.text_parts.specs.Full.{full_lines}
use Rattle.policy_csv.proofs.policy.read_policy.Given as goal

abbrev pub invariant-loop-at : goal.invariant-loop-at
invariant-loop-at l = record {
  reads : reading l.shapes (full_lines l.number l.rest) (ranked_if l.shapes.ranked l.tables.policy) ≡ whole l.shapes l.bytes;
  filled : IsFilled l.shapes l.tables.policy;
  within : l.number + length l.rest ≤ 1 + length l.bytes;
  utf8 : IsUtf8 l.rest;
}

abbrev pub decreases-loop-at : goal.decreases-loop-at
decreases-loop-at l = length l.rest
