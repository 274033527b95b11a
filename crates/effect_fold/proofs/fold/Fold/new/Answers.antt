use Rattle.std.proofs.Common.{refl}
use Rattle.effect_fold.proofs.FoldLemmas.{took_none}
use Rattle.effect_fold.proofs.fold.Fold.new.Goals as goal

pub returns : goal.returns
returns c = took_none c.args.effect _ refl
