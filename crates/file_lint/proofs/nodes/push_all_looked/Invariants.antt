use Rattle.std.proofs.Common.{◌≡◌, ◌++◌, drop}
use Rattle.std.specs.Prelude.{flat_map}
use Rattle.file_lint.specs.Helps.Trees.{seen}
use Rattle.file_lint.specs.Nodes.{looked_at}
use Rattle.file_lint.proofs.nodes.push_all_looked.Given as goal

abbrev pub invariant-loop-node : goal.invariant-loop-node
invariant-loop-node l = l.found.items ++ flat_map (looked_at l.columns) (seen (drop l.node-index l.nodes)) ≡ l.fn.found.items ++ flat_map (looked_at l.columns) (seen l.nodes)
