use Rattle.std.proofs.Common.{map, take}
use Rattle.perm_value.specs.Seen.{datum}
use Rattle.decision.specs.Helps.KeptPlans.{pair_seen}
use Rattle.decision.proofs.GatherLemmas.{SoFar}
use Rattle.decision.proofs.found_rows.hash_of.Given as goal

abbrev pub invariant-loop-pair : goal.invariant-loop-pair
invariant-loop-pair l = SoFar (map datum l.request) (map pair_seen (take l.pair-index l.pairs)) l.hash
