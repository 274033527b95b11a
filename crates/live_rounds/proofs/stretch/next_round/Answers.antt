use Rattle.live_rounds.proofs.PassingLemmas.{round_none}
use Rattle.script_read.specs.ItemLines.{said}
use Rattle.live_rounds.proofs.stretch.next_round.Goals as goal

pub returns-then-count-eq0-clause-none : goal.returns-then-count-eq0-clause-none
returns-then-count-eq0-clause-none c = round_none c.in_ok-count.count c.in_ok-count.requests (said c.args.rest.now) (said c.pass_round.new.rest) c.in_ok-count.ensures c.if-count-eq0.true
