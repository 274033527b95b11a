use Rattle.std.proofs.Common.{◌≡◌, ◌^◌, ◌<◌, ◌++◌, drop, length}
use Rattle.matcher_code.specs.Compiled.{attributes}
use Rattle.matcher_code.proofs.build_walk.push_path.Given as goal

abbrev pub invariant-loop-name : goal.invariant-loop-name
invariant-loop-name l = record {
  code : l.ops.items ++ attributes l.at (drop l.name-index l.path) ≡ l.fn.ops.items ++ attributes l.at l.path;
  few : length l.ops.items < 2 ^ 32;
}
