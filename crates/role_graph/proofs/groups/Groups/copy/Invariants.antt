use Rattle.std.proofs.Common.{◌≡◌, take}
use Rattle.role_graph.proofs.CopyLemmas.{key_text, pairs_of, roles_text, seen}
use Rattle.role_graph.proofs.groups.Groups.copy.Given as goal

abbrev pub invariant-loop-at : goal.invariant-loop-at
invariant-loop-at l = seen key_text roles_text l.entries.entries ≡ take l.at (pairs_of l.self.groups)
