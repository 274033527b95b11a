use Rattle.std.proofs.Common.{◌≡◌, ◌^◌, ◌<◌, ◌++◌, drop, length, map}
use Rattle.matcher_read.specs.Expression.{expression, expressions_of}
use Rattle.matcher_code.specs.Compiled.{arguments, members}
use Rattle.matcher_code.specs.Helps.NodePlaces.{each_placed}
use Rattle.matcher_code.proofs.build_walk.+build.Given as goal

abbrev pub invariant-push_arguments-loop-tree : goal.invariant-push_arguments-loop-tree
invariant-push_arguments-loop-tree l = record {
  code : l.ops.items ++ arguments l.source.model.now (length l.ops.items) (each_placed l.source.place (expressions_of (map expression (drop l.tree-index l.trees))))
      ≡ l.fn.ops.items ++ arguments l.source.model.now (length l.fn.ops.items) (each_placed l.source.place (expressions_of (map expression l.trees)));
  few : length l.ops.items < 2 ^ 32;
}

abbrev pub invariant-push_members-loop-tree : goal.invariant-push_members-loop-tree
invariant-push_members-loop-tree l = record {
  code : l.ops.items ++ members l.source.model.now l.at 0 (length l.ops.items) (each_placed l.source.place (expressions_of (map expression (drop l.tree-index l.trees))))
      ≡ l.fn.ops.items ++ members l.source.model.now l.at 0 (length l.fn.ops.items) (each_placed l.source.place (expressions_of (map expression l.trees)));
  few : length l.ops.items < 2 ^ 32;
}
