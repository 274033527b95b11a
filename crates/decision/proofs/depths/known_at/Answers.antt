use Rattle.std.proofs.Common.{None, arith}
use Rattle.decision.proofs.depths.known_at.Goals as goal

pub returns : goal.returns
returns c = c.requires.known c.args.at None (omega (arith, c.told-depths, c.requires.at))
