use Rattle.std.proofs.Common.{length}
use Rattle.live_rounds.proofs.asks.+answer_parts.Given as goal

abbrev pub decreases-answer_parts : goal.decreases-answer_parts
decreases-answer_parts g l = length l.parts.now
