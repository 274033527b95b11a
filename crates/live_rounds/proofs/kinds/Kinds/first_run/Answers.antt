use Rattle.std.proofs.Common.{sym}
use Rattle.live_rounds.proofs.KindLemmas.{begins_with, none_first}
use Rattle.live_rounds.proofs.kinds.Kinds.first_run.Goals as goal

pub returns-in_default : goal.returns-in_default
returns-in_default c = none_first c.args.most c.args.self.now c.front-front.result.now c.requires c.front-front.ensures (sym c.in_default.ensures.value)

pub returns : goal.returns
returns c = begins_with c.args.most c.args.self.now c.front-front.result.now c.front-front.ensures c.in-Some.asks.now c.run_len-count.result (sym c.in-Some.ensures.value) c.run_len-count.ensures
