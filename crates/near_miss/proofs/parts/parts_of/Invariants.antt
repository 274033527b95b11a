use Rattle.std.proofs.Common.{take}
use Rattle.std.specs.List.{AllZip}
use Rattle.near_miss.specs.Parts.{IsPart}
use Rattle.near_miss.specs.Helps.MadeParts.{seen}
use Rattle.near_miss.proofs.parts.parts_of.Given as goal

abbrev pub invariant-loop-tree : goal.invariant-loop-tree
invariant-loop-tree l = AllZip (IsPart l.model) (seen (take l.tree-index l.trees)) l.parts.items
