use Rattle.std.proofs.Common.{◌≡◌, ◌++◌, map, take, drop}
use Rattle.matcher_code.specs.Helps.Targets.{landed}
use Rattle.matcher_code.proofs.build_ops.land.Given as goal

abbrev pub invariant-loop-op : goal.invariant-loop-op
invariant-loop-op l = l.ops ≡ map (landed l.to) (take l.op-index l.fn.ops) ++ drop l.op-index l.fn.ops
