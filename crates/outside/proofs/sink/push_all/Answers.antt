use Rattle.std.proofs.Common.{rules}
use Rattle.std.proofs.lemmas.Result.{err_from_is_err_and}
use Rattle.outside.proofs.PieceLemmas.{pushed_on, pushed_front}
use Rattle.outside.proofs.sink.push_all.Goals as goal

pub returns-in_err-at : goal.returns-in_err-at
returns-in_err-at g c =
    let p = err_from_is_err_and c.from_residual.result c.from_residual.ensures.1 in
    record {
      took = search rules;
      stopped = rw (p.1, c.in_err-at.ensures.kept) (pushed_front _ _ _ _ _ _ c.loop-at.invariant);
      counted = search rules;
      failed = search rules;
    }

pub loop-at-preserved : goal.loop-at-preserved
loop-at-preserved g c = pushed_on _ _ _ _ _ _ _ _ _ c.loop-at.invariant c.in_ok-at.ensures.within c.in_ok-at.ensures.took c.push.ensures.counted
