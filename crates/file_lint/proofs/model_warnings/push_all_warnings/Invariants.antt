use Rattle.std.proofs.Common.{◌≡◌, ◌++◌, drop}
use Rattle.std.specs.Prelude.{flat_map}
use Rattle.file_lint.specs.Helps.Trees.{seen}
use Rattle.file_lint.specs.ModelWarnings.{node_warnings}
use Rattle.file_lint.proofs.model_warnings.push_all_warnings.Given as goal

abbrev pub invariant-loop-node : goal.invariant-loop-node
invariant-loop-node l = l.found.items ++ flat_map (node_warnings l.text) (seen (drop l.node-index l.nodes)) ≡ l.fn.found.items ++ flat_map (node_warnings l.text) (seen l.nodes)
