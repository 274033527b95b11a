use Rattle.std.proofs.Common.{◌∙◌}
use Rattle.std.proofs.lemmas.Result.{on_ok_weaker}
use Rattle.demo_run.proofs.counts.count_printed.Goals as goal

pub returns : goal.returns
returns c = on_ok_weaker c.count_shown.result (λ tallied told are. tallied told (c.deref.ensures.value ∙ are.shown)) c.count_shown.ensures
