use Rattle.std.proofs.Common.{refl}
use Rattle.live_rounds.proofs.PassingLemmas.{cut_is}
use Rattle.script_read.specs.ItemLines.{said}
use Rattle.live_rounds.proofs.shares.cut_behind.Goals as goal

pub returns : goal.returns
returns c = cut_is c.args.share c.behind-rest.result.1 c.args.items.now _ _ (said c.behind-rest.result.0) c.behind-rest.ensures c.requires.counted c.front.ensures refl refl refl refl refl
