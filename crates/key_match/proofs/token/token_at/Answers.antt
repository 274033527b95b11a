use Rattle.std.proofs.Common.{arith}
use Rattle.key_match.proofs.Readings.{pieces_at-end, IsReadAt-first}
use Rattle.key_match.proofs.token.token_at.Goals as goal

pub returns-then-at-pattern-clause-found : goal.returns-then-at-pattern-clause-found
returns-then-at-pattern-clause-found c =
    IsReadAt-first c.args.dialect c.args.pattern.now c.args.at c.first_token.result c.if-at-pattern.true c.first_token.ensures.first c.first_token.ensures.within

pub returns-else-at-pattern-clause-ended : goal.returns-else-at-pattern-clause-ended
returns-else-at-pattern-clause-ended c = pieces_at-end c.args.dialect c.args.pattern.now c.args.at (omega arith)
