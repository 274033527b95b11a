use Rattle.std.proofs.Common.{arith}
use Rattle.key_match.proofs.Classes.{ranges_of-range, ranges_of-one}
use Rattle.key_match.proofs.token.item_at.Goals as goal
use Rattle.key_match.proofs.token.item_at.Goals.{else-at-items-via-then-at-items+else-items-at-eq45, else-at-items-via-else-at-items}

pub returns-then-items-at-eq45 : goal.returns-then-items-at-eq45
returns-then-items-at-eq45 c = record {
  ranges = ranges_of-range c.args.at c.args.items.now c.if-at-items.true c.if-items-at-eq45.true;
  after = omega arith;
  within = omega arith;
}

pub returns : goal.returns
returns c = record {
  ranges =
      ranges_of-one c.args.at c.args.items.now c.requires
      (λ long dash. elim c.else-at-items.branch [ else-at-items-via-then-at-items+else-items-at-eq45 w ↦ w.if-items-at-eq45.false dash | else-at-items-via-else-at-items w ↦ absurd (omega arith) ]);
  after = omega arith;
  within = omega arith;
}
